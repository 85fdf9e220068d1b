pub mod Joined
pub mod Heads
pub mod Left
pub mod Noted
pub mod Reading
pub mod Labels
pub mod ReadBack
pub mod Examples
