mod Placed
pub mod OneReview
