pub mod Bounds
pub mod Many
pub mod Orders
