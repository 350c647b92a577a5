pub mod Paths
pub mod State
pub mod Calls
pub mod Plain
