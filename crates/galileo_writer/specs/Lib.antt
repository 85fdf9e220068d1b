pub mod Galileo
pub mod Truth
pub mod Sound
pub mod TreeText
pub mod inner
