pub mod Live
pub mod Later
pub mod Order
