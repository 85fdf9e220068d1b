pub mod Numerals
pub mod Rates
