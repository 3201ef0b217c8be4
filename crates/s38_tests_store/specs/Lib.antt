pub mod pages
