pub mod First
pub mod Sides
pub mod Strict
