pub mod MapLaws
pub mod PlaceLaws
pub mod NextLaws
pub mod JoinLaws
pub mod WalkLaws
pub mod FirstLaws
