-- Definitions for private functions alone.
pub mod Keys
pub mod Placing
pub mod Writing
