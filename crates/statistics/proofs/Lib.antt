pub mod Picks
pub mod Bounded
pub mod OneBound
pub mod ShortBounds
pub mod Fronts
pub mod ShortFronts
