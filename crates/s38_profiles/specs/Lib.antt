pub mod Rows
pub mod Users
pub mod ProfileMaps
