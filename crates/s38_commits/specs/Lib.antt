pub mod Changes
pub mod Unit
pub mod Units
pub mod Places
