pub mod Entries
pub mod IndexPages
pub mod inner
