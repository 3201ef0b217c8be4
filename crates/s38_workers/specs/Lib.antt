pub mod Hearing
pub mod Asking
pub mod Going
pub mod Runs
