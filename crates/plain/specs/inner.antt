-- Definitions for private functions only.
pub mod Sized
pub mod Placed
pub mod First
pub mod ByColumns
