-- Definitions for private functions alone.
pub mod Code
pub mod Begun
pub mod Waiting
