pub mod Items
pub mod Lists
pub mod Rule
pub mod Plays
pub mod Seats
pub mod Calls
