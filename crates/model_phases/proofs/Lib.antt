pub mod Tested
mod Made
pub mod Decided
pub mod ToldLaws
pub mod GroupLaws
