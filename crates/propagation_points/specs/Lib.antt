pub mod Points
pub mod Uses
pub mod States
pub mod Settings
pub mod inner
