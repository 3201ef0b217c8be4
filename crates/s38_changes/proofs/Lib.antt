pub mod CellLaws
pub mod CreationLaws
pub mod KeptLaws
pub mod AddRemoveLaws
pub mod PaymentLaws
pub mod LimitLaws
pub mod RowLaws
pub mod StandingLaws
