pub mod Formats
pub mod Index
pub mod Mounts
pub mod Scan
pub mod Stored
pub mod Vaults
pub mod Watched
