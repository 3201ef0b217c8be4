pub mod PlaceLaws
pub mod KeyedLaws
pub mod DirectoryLaws
pub mod NextLaws
