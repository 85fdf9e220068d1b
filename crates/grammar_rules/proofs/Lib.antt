pub mod Words
pub mod Looks
pub mod Laws
pub mod Takes
pub mod Loops
pub mod Gathers
pub mod Texts
pub mod Runs
