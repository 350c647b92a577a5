pub mod Batches
pub mod Fetched
pub mod Gathering
pub mod Parts
pub mod GatheredFiles
