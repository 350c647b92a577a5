-- Definitions for private functions only.
pub mod Taken
pub mod Put
