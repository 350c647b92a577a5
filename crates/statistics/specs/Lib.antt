pub mod Bounds
pub mod Absent
pub mod Bytes
pub mod inner
