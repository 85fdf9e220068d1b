pub mod Lengths
pub mod Pages
pub mod Steps
