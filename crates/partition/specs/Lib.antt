pub mod Folders
pub mod Nesting
pub mod Order
pub mod Splitting
pub mod inner
