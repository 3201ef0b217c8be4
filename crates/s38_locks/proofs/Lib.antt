pub mod OrderLaws
mod SearchLaws
pub mod TableLaws
