pub mod CursorLaws
pub mod FoundLaws
pub mod InsertLaws
