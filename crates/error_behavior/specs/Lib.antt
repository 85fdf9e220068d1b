pub mod Triggers
pub mod Steps
pub mod Behavior
