pub mod Asked
pub mod CommandLine
pub mod Paths
pub mod Program
pub mod RefusalLine
pub mod Words
pub mod inner
