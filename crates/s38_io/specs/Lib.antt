pub mod Answers
pub mod Calls
pub mod Memory
pub mod Reading
pub mod Sink
pub mod Source
