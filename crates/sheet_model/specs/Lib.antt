pub mod Parts
pub mod Phase
pub mod inner
