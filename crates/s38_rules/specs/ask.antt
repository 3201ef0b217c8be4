pub mod Users
pub mod Authority
pub mod Blocking
pub mod Needs
pub mod Operands
pub mod Receivers
pub mod AddressRules
pub mod RightsRules
