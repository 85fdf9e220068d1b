pub mod Marks
pub mod Token
