pub mod Gathered
pub mod ProbabilityText
