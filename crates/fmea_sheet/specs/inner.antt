pub mod Written
pub mod Reached
