-- Definitions for private functions only.
pub mod Cursors
pub mod Extremes
pub mod Fronts
