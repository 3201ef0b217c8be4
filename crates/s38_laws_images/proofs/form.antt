pub mod WordLaws
pub mod RowLaws
pub mod RestartLaws
pub mod HistoryLaws
