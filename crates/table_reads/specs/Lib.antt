pub mod Listing
pub mod Reading
pub mod Passing
pub mod Counting
pub mod Stepping
pub mod Shown
