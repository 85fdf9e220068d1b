pub mod Chain
pub mod Rows
pub mod Members
pub mod Items
pub mod inner
