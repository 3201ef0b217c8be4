mod EffectLaws
mod EventLaws
mod NeedLaws
mod PlainLaws
mod PlainRowLaws
mod PlainWordLaws
mod PointerLaws
pub mod ProcessLaws
pub mod RightLaws
mod AccessLaws
pub mod StepLaws
