mod FileEnds
pub mod PlacesKept
mod HostKnown
mod BlocksPut
