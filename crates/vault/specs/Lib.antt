pub mod Views
pub mod Ways
pub mod Calls
pub mod inner
