pub mod Columns
pub mod Slots
pub mod InPlain
pub mod Waiting
pub mod Kept
pub mod Buffer
pub mod inner
