pub mod Closing
pub mod Passing
pub mod Ensuring
pub mod Waiting
