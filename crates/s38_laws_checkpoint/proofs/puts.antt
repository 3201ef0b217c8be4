pub mod CostLaws
pub mod NextLaws
pub mod EachLaws
