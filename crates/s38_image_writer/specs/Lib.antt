pub mod Writing
pub mod Printing
pub mod Restoring
pub mod Parts
