pub mod Named
pub mod Entries
pub mod inner
