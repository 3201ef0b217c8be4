pub mod KeptLaws
pub mod NumberLaws
pub mod NameLaws
pub mod IndexLaws
pub mod PlaceLaws
pub mod ObjectLaws
pub mod RestoreLaws
