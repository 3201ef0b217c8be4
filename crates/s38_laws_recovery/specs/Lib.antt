pub mod Restarting
pub mod Restartable
pub mod Restarts
pub mod Ending
