pub mod Forms
pub mod Keys
pub mod Starts
pub mod inner
