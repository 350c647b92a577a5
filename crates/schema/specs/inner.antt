-- Definitions for private functions only.
pub mod Reading
pub mod LeafPaths
pub mod Code
pub mod Built
pub mod Grown
pub mod Keyed
pub mod Ascii
