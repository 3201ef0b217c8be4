pub mod WalkLaws
pub mod DifferenceLaws
pub mod WantedLaws
pub mod PutLaws
pub mod LookLaws
pub mod AimLaws
pub mod FaultLaws
