pub mod Seen
pub mod Findings
pub mod Told
pub mod Lines
pub mod inner
