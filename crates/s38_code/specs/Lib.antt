pub mod Asking
pub mod History
pub mod Operations
pub mod TextLines
