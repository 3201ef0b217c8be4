pub mod Codec
pub mod Formats
pub mod Reading
