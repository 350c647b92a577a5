pub mod Running
pub mod Restarting
pub mod Prefixes
pub mod Lending
