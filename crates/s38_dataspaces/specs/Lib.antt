pub mod Entries
pub mod Seeks
pub mod Values
pub mod Table
pub mod Refusals
