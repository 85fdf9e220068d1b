pub mod Associations
pub mod Unused
pub mod inner
