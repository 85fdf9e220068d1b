pub mod Rows
pub mod Text
pub mod Tables
pub mod Written
pub mod Columns
