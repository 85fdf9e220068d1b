pub mod Places
pub mod Quiet
pub mod TwoWays
pub mod Unlike
pub mod inner
