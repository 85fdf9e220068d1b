pub mod Tests
pub mod Numbered
pub mod Told
