pub mod Verdict
pub mod Effect
pub mod Step
pub mod Legal
pub mod Histories
