pub mod Words
pub mod Names
pub mod Properties
pub mod Conditions
pub mod Types
pub mod inner
