pub mod Whole
pub mod Tables
pub mod Reached
