pub mod Reader
pub mod Parts
pub mod Texts
