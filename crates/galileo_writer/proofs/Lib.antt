pub mod Bytes
pub mod TreeLeft
pub mod OneText
pub mod Names
pub mod TreeNames
pub mod TextTruth
pub mod Soundness
pub mod Examples
