pub mod DeckLaws
mod OwnerLaws
mod KeepLaws
pub mod TopLaws
pub mod CompleteLaws
pub mod CauseLaws
pub mod WholeRunLaws
mod StoreLaws
mod SentLaws
mod OverLaws
mod WentOverLaws
mod NextLaws
mod BegunLaws
mod ConfinedLaws
mod AgainLaws
pub mod SafeLaws
