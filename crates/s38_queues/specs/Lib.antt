pub mod Kept
pub mod KeyText
pub mod Left
pub mod MessageQueue
pub mod Places
