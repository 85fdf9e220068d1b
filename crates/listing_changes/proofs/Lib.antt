mod Examples
mod Names
mod Matching
mod Ascending
mod Placing
mod Counting
pub mod Texts
mod Sided
