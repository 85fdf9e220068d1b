pub mod Fitting
pub mod Known
pub mod Listed
pub mod Rated
pub mod Tables
