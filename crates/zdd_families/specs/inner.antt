pub mod Unions
pub mod Steps
pub mod Rows
pub mod Copies
pub mod Rising
