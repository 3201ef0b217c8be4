pub mod Common
pub mod Forms
pub mod Images
pub mod Need
pub mod Values
