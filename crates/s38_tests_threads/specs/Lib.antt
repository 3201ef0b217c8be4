pub mod turn
pub mod workers
