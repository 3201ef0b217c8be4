pub mod LawLaws
pub mod MetLaws
mod PlaceLaws
mod ReceivedLaws
pub mod ShapeLaws
mod SpaceLaws
pub mod FrameLaws
