pub mod Content
pub mod Directory
pub mod Keyed
pub mod Keys
pub mod MapVaults
pub mod Vaults
