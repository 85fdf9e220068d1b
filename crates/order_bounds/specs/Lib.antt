pub mod Orders
pub mod Targets
pub mod inner
