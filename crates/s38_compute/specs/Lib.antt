pub mod Compute
pub mod Computed
pub mod Piece
pub mod Readings
pub mod Written
