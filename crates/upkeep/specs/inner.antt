-- Definitions for private functions only.
pub mod Columns
pub mod Files
pub mod Walk
