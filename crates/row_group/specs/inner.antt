-- Definitions for private functions alone.
pub mod Pages
pub mod Readers
pub mod Columns
pub mod Parts
pub mod Counts
pub mod WantedChunks
pub mod Copied
