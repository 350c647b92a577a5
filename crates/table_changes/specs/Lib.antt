pub mod RootLimit
pub mod Widening
pub mod Removing
