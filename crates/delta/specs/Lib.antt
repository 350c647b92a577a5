pub mod Delta
pub mod Written
pub mod ByteDeltas
pub mod WrittenBytes
pub mod inner
pub mod ValuesLeft
pub mod Examples
