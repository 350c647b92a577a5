pub mod Intact
pub mod Reading
pub mod Strays
pub mod Totals
pub mod inner
