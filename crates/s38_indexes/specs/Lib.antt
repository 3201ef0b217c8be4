pub mod Entries
pub mod Leaves
pub mod Refusals
