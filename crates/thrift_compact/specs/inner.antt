-- Definitions for private functions only.
pub mod Reading
pub mod Writing
pub mod Writable
