mod Adding
pub mod Readings
