pub mod DigitLaws
pub mod FrontLaws
pub mod MnemonicLaws
pub mod NumberLaws
pub mod PartLaws
