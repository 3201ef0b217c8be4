pub mod RunLaws
pub mod LookupLaws
pub mod ReadLaws
pub mod LawfulLaws
pub mod SoundLaws
pub mod SearchLaws
pub mod CeilingLaws
pub mod StoreLaws
