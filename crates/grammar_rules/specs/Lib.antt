pub mod Rules
pub mod Running
pub mod Tokens
pub mod Parts
pub mod Spans
pub mod Texts
pub mod inner
