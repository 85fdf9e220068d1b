pub mod Listed
pub mod Possible
pub mod Alone
pub mod Occurring
pub mod Single
pub mod Loops
pub mod inner
