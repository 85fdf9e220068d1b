pub mod Based
pub mod TreeMef
pub mod Worth
