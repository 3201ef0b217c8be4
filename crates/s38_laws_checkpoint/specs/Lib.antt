pub mod prefix
pub mod puts
