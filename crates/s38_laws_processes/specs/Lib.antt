pub mod owners
pub mod replies
