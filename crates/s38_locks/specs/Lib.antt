pub mod States
pub mod Locks
pub mod Refusals
pub mod Table
