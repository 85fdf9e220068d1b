pub mod Root
pub mod Unread
