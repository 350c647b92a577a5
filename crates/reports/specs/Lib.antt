pub mod Names
pub mod Verdict
pub mod Notes
