pub mod state
pub mod ask
pub mod families
pub mod store
pub mod step
