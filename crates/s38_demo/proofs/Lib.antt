pub mod CheckedLaws
pub mod GeneratedLaws
pub mod NameLaws
pub mod SpelledLaws
