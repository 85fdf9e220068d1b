pub mod Places
pub mod Feeding
pub mod Texts
pub mod inner
