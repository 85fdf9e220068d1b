pub mod Adding
pub mod Reached
pub mod Rising
pub mod OneSlice
