pub mod Blocks
pub mod Checks
pub mod Sizes
pub mod Reach
