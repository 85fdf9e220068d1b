pub mod Named
pub mod Tests
pub mod Phases
pub mod inner
pub mod Groups
