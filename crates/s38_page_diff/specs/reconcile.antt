pub mod Replacing
pub mod Walking
pub mod Placing
