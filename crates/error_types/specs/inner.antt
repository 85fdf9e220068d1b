pub mod Types
pub mod Leaving
pub mod Trip
pub mod Needs
pub mod Endings
pub mod Grounded
pub mod Rows
pub mod Words
