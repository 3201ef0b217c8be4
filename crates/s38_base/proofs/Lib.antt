pub mod NameOrder
