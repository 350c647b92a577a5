-- Definitions for private functions only.
pub mod Excluded
pub mod Sets
pub mod Judging
