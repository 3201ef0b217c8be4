pub mod Crashes
pub mod Stores
pub mod Opened
pub mod Refusals
