pub mod Json
pub mod Reading
pub mod Rows
pub mod Reader
pub mod Law
pub mod inner
