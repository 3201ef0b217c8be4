pub mod Seen
pub mod Sound
pub mod Keeping
pub mod Laws
pub mod Asking
pub mod Commits
