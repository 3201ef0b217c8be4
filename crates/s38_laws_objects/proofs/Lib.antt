pub mod EventLaws
pub mod OutlineLaws
mod RowLaws
mod WordLaws
