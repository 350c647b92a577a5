pub mod SameTexts
pub mod DateTexts
pub mod TimeTexts
pub mod TimestampTexts
pub mod DecimalTexts
pub mod ByteNumbers
