mod Cells
mod Images
pub mod Meaning
mod Reading
mod Writing
