pub mod Forms
pub mod Readable
pub mod Templates
