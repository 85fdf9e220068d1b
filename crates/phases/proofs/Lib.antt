pub mod Decided
pub mod Endings
pub mod Leaves
pub mod Steps
