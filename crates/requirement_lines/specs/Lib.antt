pub mod Lines
pub mod Rulings
pub mod inner
