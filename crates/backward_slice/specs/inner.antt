pub mod Marks
pub mod Reach
