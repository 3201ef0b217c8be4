pub mod Worlds
pub mod Numbers
pub mod Places
pub mod Following
