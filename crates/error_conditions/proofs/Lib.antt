pub mod ConditionLaws
pub mod Covering
mod Examples
mod First
mod Quiet
mod Telling
