pub mod InputLaws
pub mod Solutions
pub mod Places
pub mod Folds
pub mod Tested
pub mod Settled
pub mod Merges
pub mod Examples
