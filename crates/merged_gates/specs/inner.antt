pub mod Merged
pub mod Solutions
pub mod Tests
