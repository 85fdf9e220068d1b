pub mod Outside
pub mod Reports
pub mod Counts
pub mod inner
