pub mod Anew
pub mod Asked
pub mod Fitting
pub mod Plain
pub mod Resolved
