pub mod Gates
pub mod Filling
pub mod Families
pub mod ThinSystems
