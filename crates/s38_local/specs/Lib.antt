pub mod Frames
pub mod Kinds
pub mod Law
pub mod Local
pub mod Overlap
pub mod Received
pub mod Variables
pub mod Ways
