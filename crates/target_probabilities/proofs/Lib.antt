pub mod Cases
pub mod Probable
