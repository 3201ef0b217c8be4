pub mod GeneratedDeck
pub mod Total
