pub mod Bounding
pub mod Filling
pub mod Fronting
pub mod Holding
pub mod Keeping
pub mod Longer
pub mod Looking
pub mod Walking
