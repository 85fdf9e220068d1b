pub mod Below
pub mod Models
pub mod Refused
pub mod inner
