pub mod Varints
pub mod Packed
pub mod Numbers
pub mod Runs
pub mod Taking
pub mod Hybrids
pub mod Putting
pub mod Examples
