pub mod FormLaws
pub mod HeldLaws
pub mod LabelLemmas
pub mod MapLemmas
pub mod Parts
pub mod PlaceLemmas
pub mod Powers
