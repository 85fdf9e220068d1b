mod Kept
mod Rated
