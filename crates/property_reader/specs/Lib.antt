pub mod Fields
pub mod Rates
pub mod inner
