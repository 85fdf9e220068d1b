pub mod Assembly
pub mod Effects
pub mod Facts
pub mod Names
pub mod Limits
pub mod Laws
pub mod inner
