mod Staying
mod Parts
mod Firsts
mod Singles
