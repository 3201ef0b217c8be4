pub mod Aims
pub mod Differences
pub mod FlushFaults
pub mod Puts
pub mod reconcile
