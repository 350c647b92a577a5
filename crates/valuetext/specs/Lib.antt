pub mod Units
pub mod Dates
pub mod Times
pub mod Timestamps
pub mod Decimals
pub mod TwosComplement
pub mod Laws
pub mod inner
