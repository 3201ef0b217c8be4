pub mod openings
pub mod readable
pub mod form
