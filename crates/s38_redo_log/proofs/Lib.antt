pub mod HomeLaws
pub mod Words
pub mod Again
pub mod Crash
pub mod Writes
pub mod LogLemmas
pub mod CommitLemmas
