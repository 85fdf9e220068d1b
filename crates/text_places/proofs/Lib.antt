mod Feeds
mod Marked
mod Placed
pub mod Examples
