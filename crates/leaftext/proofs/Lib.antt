pub mod Tests
pub mod Dates
pub mod Times
pub mod Timestamps
pub mod Decimals
pub mod FormTexts
pub mod BytesTexts
