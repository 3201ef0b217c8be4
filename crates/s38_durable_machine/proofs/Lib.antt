mod MarkLaws
pub mod StateLaws
mod RestartLaws
mod UnforcedLaws
mod KeptLaws
mod StartLaws
pub mod SoundLaws
pub mod DurableStepLaws
mod SettledLaws
mod FewLaws
pub mod WantLaws
pub mod SentLaws
mod AskLaws
