pub mod Asked
pub mod CommandLine
pub mod Files
pub mod Flags
pub mod Inputs
pub mod Styles
pub mod Words
