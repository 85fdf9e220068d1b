pub mod Renaming
pub mod Orders
pub mod Splitting
pub mod Lists
