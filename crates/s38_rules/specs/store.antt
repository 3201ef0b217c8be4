pub mod Room
pub mod Storable
pub mod Forcing
pub mod Storing
