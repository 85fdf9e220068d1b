pub mod CutSets
pub mod Listings
pub mod Rounds
