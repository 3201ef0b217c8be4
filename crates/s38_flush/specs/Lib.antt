pub mod Numbers
pub mod Fronts
pub mod Putting
pub mod Growing
pub mod Stepping
pub mod Leftovers
