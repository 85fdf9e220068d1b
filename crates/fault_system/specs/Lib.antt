pub mod Truth
pub mod Systems
pub mod CutSets
pub mod Listings
pub mod Rounds
pub mod inner
