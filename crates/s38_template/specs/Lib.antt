pub mod Cut
pub mod Grammar
pub mod Known
pub mod Lines
pub mod Places
pub mod Printing
pub mod Reading
pub mod Views
