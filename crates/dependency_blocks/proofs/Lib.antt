pub mod Parts
pub mod Passes
pub mod Counting
mod Sets
mod Ranked
pub mod AllFacts
