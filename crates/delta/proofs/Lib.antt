pub mod Packed
pub mod One
pub mod OneByBytes
pub mod OneText
pub mod Varints
pub mod Examples
pub mod TwoBlocks
pub mod Wrap
pub mod Sums
pub mod Least
pub mod WrittenBlocks
pub mod Taking
pub mod Gathering
pub mod Cutting
pub mod Putting
pub mod Joining
mod Completing
mod Sharing
mod Fitting
mod WrittenBytes
