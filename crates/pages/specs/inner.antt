-- Definitions for private functions alone.
pub mod Reading
pub mod Put
