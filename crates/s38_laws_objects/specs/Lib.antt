pub mod Outline
pub mod Well
