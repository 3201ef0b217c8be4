pub mod Beginnings
pub mod Owners
