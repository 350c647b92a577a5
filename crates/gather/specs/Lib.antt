pub mod Parts
pub mod Groups
pub mod Buffers
pub mod KeyBuffers
pub mod CutRows
pub mod GatheredRows
pub mod Laws
