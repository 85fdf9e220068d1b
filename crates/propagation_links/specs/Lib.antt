pub mod Bound
pub mod Ends
pub mod Links
pub mod Refused
pub mod Stated
pub mod Unlinked
pub mod inner
