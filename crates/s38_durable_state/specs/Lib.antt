pub mod Durable
pub mod Represents
pub mod Following
