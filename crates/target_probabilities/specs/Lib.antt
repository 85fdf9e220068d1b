pub mod Bounds
pub mod Probability
pub mod inner
