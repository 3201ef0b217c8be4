pub mod StoreFiles
pub mod CommandLine
