mod Bounded
mod Keeping
