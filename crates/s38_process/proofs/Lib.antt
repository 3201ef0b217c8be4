pub mod Alone
pub mod LawfulLaws
pub mod LawfulLawsOfCalls
pub mod LawfulLawsOfLists
pub mod LawfulLawsOfSignals
mod OfferLaws
mod ParameterLaws
mod PlaceLaws
mod ReceiptLaws
mod SettleLaws
