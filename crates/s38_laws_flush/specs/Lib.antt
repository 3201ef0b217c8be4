pub mod durable
pub mod puts
