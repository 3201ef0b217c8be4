pub mod Recent
pub mod Requests
