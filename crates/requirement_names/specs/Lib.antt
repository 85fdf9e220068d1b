pub mod Groups
pub mod Named
pub mod Names
pub mod Sets
pub mod Wrong
pub mod inner
