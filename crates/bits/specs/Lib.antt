pub mod Refusals
pub mod Codec
pub mod Varint
pub mod Bits
pub mod Faults
