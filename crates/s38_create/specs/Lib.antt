pub mod Checked
pub mod Created
pub mod Instruction
pub mod Parsed
pub mod Said
pub mod WellFormed
