pub mod BeginLaws
pub mod FirstLaws
pub mod ChargeLaws
mod RedoLaws
mod FitLaws
mod BodyLaws
mod PlacedLaws
mod HeadLaws
pub mod RestartLaws
mod CeilingLaws
pub mod CloseLaws
pub mod OrderLaws
