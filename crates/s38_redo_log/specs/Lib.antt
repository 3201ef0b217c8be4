pub mod Coding
pub mod Phases
pub mod Store
