pub mod Stray
pub mod inner
