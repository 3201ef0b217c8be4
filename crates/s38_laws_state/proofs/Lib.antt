mod TableLaws
mod OwnerLaws
mod StatusLaws
mod RowLaws
mod LiveLaws
pub mod FollowLaws
pub mod LaterLaws
pub mod FitLaws
pub mod FitTogetherLaws
pub mod RiseLaws
mod WordLaws
pub mod HeadLaws
mod PlaceLaws
mod GrantRowLaws
mod ProfileRowLaws
mod ContextRowLaws
mod CreatedLaws
mod FitRowLaws
pub mod SeenLaws
mod BodyLaws
mod BodyRowLaws
mod SpaceBodyLaws
mod QueueBodyLaws
mod BodyLimitLaws
mod OrderLaws
mod LockLaws
pub mod StepLaws
pub mod UserLaws
pub mod EndLaws
