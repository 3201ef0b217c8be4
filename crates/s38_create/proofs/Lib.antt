pub mod FitLemmas
pub mod NumberLemmas
pub mod ParsedLemmas
pub mod Parts
pub mod RefusalLemmas
pub mod SaidLemmas
