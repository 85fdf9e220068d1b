pub mod Joined
pub mod Review
