pub mod Machines
pub mod States
pub mod inner
