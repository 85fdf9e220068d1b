pub mod Bindings
pub mod Pieces
pub mod inner
