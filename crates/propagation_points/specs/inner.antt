pub mod Points
pub mod Uses
pub mod Tables
