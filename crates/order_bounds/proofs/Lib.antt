mod Alone
pub mod Small
mod Wider
mod Above
mod Held
