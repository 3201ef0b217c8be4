pub mod Creating
pub mod EntryChanges
pub mod Following
pub mod Growing
pub mod Logging
