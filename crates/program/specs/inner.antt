-- Definitions for private functions only.
pub mod Copied
pub mod Gathered
pub mod Lines
pub mod Met
