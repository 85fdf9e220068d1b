pub mod Walk
pub mod Types
pub mod NoError
pub mod inner
