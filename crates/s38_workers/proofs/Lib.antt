pub mod NoteLaws
pub mod AskLaws
pub mod GoLaws
pub mod ListLaws
pub mod GatherLaws
pub mod RunLaws
