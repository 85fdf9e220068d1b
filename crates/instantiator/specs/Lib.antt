pub mod Effectives
pub mod Components
pub mod Refused
pub mod Whole
pub mod inner
