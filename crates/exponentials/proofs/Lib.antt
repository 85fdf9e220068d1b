pub mod Numbers
pub mod Summing
pub mod Squares
pub mod Narrowing
