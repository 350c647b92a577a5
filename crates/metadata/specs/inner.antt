-- Definitions for private functions only.
pub mod Slots
pub mod Starts
