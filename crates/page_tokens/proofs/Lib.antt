pub mod Forms
pub mod Once
mod Backs
mod Keys
