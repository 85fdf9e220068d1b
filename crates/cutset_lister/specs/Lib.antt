pub mod SetText
pub mod inner
