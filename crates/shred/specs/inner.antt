pub mod Growing
pub mod Put
pub mod Filling
pub mod Opening
pub mod Roomy
pub mod Packed
pub mod Spelled
