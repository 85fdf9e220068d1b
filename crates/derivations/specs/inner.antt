pub mod Steps
pub mod Marked
pub mod Text
pub mod Reading
pub mod Gathered
pub mod Reaching
pub mod Ordered
