pub mod Libraries
pub mod Search
pub mod Printed
pub mod inner
