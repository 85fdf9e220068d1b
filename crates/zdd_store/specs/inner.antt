pub mod Family
pub mod Store
pub mod Nodes
pub mod Answers
