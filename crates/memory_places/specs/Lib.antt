pub mod Called
pub mod Files
pub mod Folders
