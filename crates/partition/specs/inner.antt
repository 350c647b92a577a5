-- Definitions for private functions only.
pub mod Checks
pub mod Reading
pub mod Parts
pub mod Columns
