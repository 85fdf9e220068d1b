mod Cutting
mod Growing
pub mod OneVerdict
mod Staling
