pub mod Slices
pub mod inner
