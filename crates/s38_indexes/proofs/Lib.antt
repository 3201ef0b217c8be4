pub mod CutLaws
pub mod OrderLaws
pub mod LeafLaws
pub mod SplitLaws
pub mod LookupLaws
pub mod IndexLaws
