pub mod PrintLaws
pub mod CutLaws
pub mod WriterLaws
pub mod DataLaws
pub mod TextLaws
pub mod LengthLaws
pub mod PartLaws
pub mod KindLaws
