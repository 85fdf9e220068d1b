mod Sorted
pub mod Below
pub mod BySize
pub mod Counting
pub mod Going
pub mod Skipping
pub mod Seeking
pub mod Buffers
pub mod Scans
pub mod Grown
