pub mod Spans
pub mod Terms
pub mod Widths
