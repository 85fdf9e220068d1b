pub mod Hazards
pub mod Meaning
pub mod Targets
pub mod inner
