pub mod Opposites
pub mod Descents
pub mod DualTruth
pub mod PathLaws
pub mod GateTruth
pub mod Listings
mod Made
pub mod Examples
