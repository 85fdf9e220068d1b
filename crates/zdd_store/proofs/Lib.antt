pub mod Branches
pub mod Orders
pub mod Growing
pub mod Shaped
pub mod Entries
pub mod Making
pub mod Terminals
