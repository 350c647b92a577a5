-- Definitions for private functions alone.
pub mod Building
pub mod Fronts
pub mod ReadValues
pub mod Steps
