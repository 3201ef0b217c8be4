pub mod Groups
pub mod Runs
pub mod Readings
pub mod Stores
