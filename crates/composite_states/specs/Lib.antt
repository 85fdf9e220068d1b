pub mod Below
pub mod Composites
pub mod inner
