pub mod Explained
pub mod Naming
pub mod Parsed
pub mod Reading
pub mod Reasons
pub mod Shown
pub mod Words
