pub mod Lawful
pub mod NameOrder
pub mod Changes
pub mod Indexed
pub mod Lending
