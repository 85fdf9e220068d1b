pub mod Orders
pub mod Text
pub mod inner
