pub mod Trees
pub mod Truth
pub mod Tables
pub mod Cycles
pub mod Written
pub mod Rates
