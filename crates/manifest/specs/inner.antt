-- Definitions for private functions only.
pub mod Building
pub mod Places
pub mod Stored
pub mod Appended
pub mod Writing
pub mod Heads
pub mod Reading
pub mod Texts
pub mod Paths
