pub mod Emptied
pub mod Silent
