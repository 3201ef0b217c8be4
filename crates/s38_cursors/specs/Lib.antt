pub mod Insertion
pub mod CurrentEntry
