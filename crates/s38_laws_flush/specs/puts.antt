pub mod Lengthening
pub mod Unforced
pub mod Trails
pub mod OnePut
pub mod Fresh
pub mod Spaces
