pub mod Booleans
pub mod Numbers
pub mod Options
pub mod Lists
pub mod Slices
