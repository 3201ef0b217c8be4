pub mod StoredLaws
pub mod SeekLaws
pub mod SpaceLaws
