pub mod Sets
pub mod Used
pub mod inner
