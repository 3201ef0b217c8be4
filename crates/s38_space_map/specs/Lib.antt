pub mod Extents
pub mod Forcings
pub mod Keeping
