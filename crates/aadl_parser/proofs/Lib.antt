mod Depths
mod Joined
mod TwoNames
