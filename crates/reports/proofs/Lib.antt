pub mod Members
pub mod Judged
pub mod Joined
