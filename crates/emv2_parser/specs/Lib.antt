pub mod Machines
pub mod Propagations
pub mod Behavior
pub mod Grammar
pub mod inner
