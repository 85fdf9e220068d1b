mod Noting
mod Loops
mod Knowing
mod Firsts
mod Fitting
mod Emptiness
mod Examples
