pub mod Steps
pub mod Text
pub mod Derived
pub mod inner
