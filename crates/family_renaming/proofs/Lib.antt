pub mod Tables
pub mod Halves
pub mod Firsts
pub mod Permutations
pub mod Puts
pub mod Added
pub mod Own
pub mod Members
