pub mod Aligned
pub mod DecimalTexts
pub mod Decimals
pub mod Figures
