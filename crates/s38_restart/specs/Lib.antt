pub mod Committed
pub mod Faults
pub mod Parts
pub mod Redo
pub mod Removing
pub mod Restarted
pub mod catalog
