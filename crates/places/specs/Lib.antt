pub mod FileEnds
pub mod Blocks
pub mod Places
