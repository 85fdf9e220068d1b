pub mod Meanings
pub mod Verdicts
pub mod inner
