pub mod Cell
pub mod Image
pub mod Tagged
