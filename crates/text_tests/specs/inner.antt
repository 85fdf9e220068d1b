pub mod Sample
pub mod SampleExamples
