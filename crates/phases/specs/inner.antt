pub mod Meets
pub mod Phases
pub mod Status
pub mod Stopped
