pub mod Bits
pub mod Copies
pub mod Ebcdic
pub mod Hex
pub mod Translate
