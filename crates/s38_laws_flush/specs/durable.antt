pub mod Kept
pub mod Beginning
pub mod Crashes
