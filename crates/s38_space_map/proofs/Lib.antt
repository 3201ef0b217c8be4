pub mod ExtentLaws
mod ForcingLaws
pub mod SearchLaws
pub mod SumLaws
