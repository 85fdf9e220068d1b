pub mod Exponentials
pub mod Widths
pub mod inner
