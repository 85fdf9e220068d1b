pub mod Phases
pub mod inner
