pub mod Bodies
pub mod Fitting
pub mod Opening
pub mod Charges
pub mod Closing
