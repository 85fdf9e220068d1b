pub mod DecimalTexts
pub mod Decimals
pub mod Numerals
pub mod inner
