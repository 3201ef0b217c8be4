pub mod CodecLaws
pub mod FormatLaws
pub mod Loop
