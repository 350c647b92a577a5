pub mod Finding
pub mod Texts
pub mod Reads
pub mod Bytes
pub mod Forms
pub mod Laws
