pub mod KeyLaws
pub mod PieceLaws
pub mod SoFarLaws
pub mod ContentLaws
pub mod PlacedLaws
