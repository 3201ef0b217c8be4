pub mod Ends
pub mod Picked
pub mod Pickers
pub mod Progress
pub mod Running
pub mod Turns
pub mod Still
pub mod Whole
