pub mod Ordinals
pub mod Counting
pub mod Told
pub mod Linked
pub mod Imaged
pub mod Touched
pub mod Found
pub mod Begun
