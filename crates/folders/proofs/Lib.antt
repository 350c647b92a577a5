pub mod Named
pub mod Ways
