-- Definitions for private functions alone.
pub mod Taken
pub mod Cut
pub mod Put
pub mod Shared
