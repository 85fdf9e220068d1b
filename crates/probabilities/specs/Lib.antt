pub mod Certain
pub mod Decided
pub mod Rates
pub mod Sharp
pub mod Weights
pub mod Widths
pub mod inner
