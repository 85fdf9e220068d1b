pub mod Names
pub mod Lookup
pub mod Duplicates
pub mod inner
