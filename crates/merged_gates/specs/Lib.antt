pub mod Merged
pub mod inner
