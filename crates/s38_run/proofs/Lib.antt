pub mod AgainLaws
pub mod Asking
mod EndLaws
pub mod HistoryLaws
pub mod JobLaws
pub mod ProgressLaws
pub mod ReadyLaws
pub mod Running
pub mod Stepping
mod Turning
pub mod TurnLaws
pub mod ListedJobs
pub mod JobTurn
pub mod TurnsFall
pub mod ReadyAfterTurn
pub mod StillLaws
mod WaitLaws
