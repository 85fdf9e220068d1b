mod Begins
pub mod Targets
pub mod Listed
pub mod FirstSets
mod Formed
mod Shapes
mod TreeTexts
mod WideRates
pub mod Reported
pub mod Decided
pub mod Derived
pub mod WrittenPages
