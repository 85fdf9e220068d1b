pub mod Read
pub mod Exposure
pub mod Narrow
