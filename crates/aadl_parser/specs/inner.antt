pub mod Files
pub mod Takes
