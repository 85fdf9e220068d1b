pub mod Tokens
pub mod Scan
pub mod inner
