pub mod GatheredRows
pub mod LineCuts
pub mod Brought
