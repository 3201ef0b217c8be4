pub mod OfPointers
pub mod NoWay
pub mod Confined
pub mod Plain
