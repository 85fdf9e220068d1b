pub mod Numbers
pub mod Comparing
pub mod Telling
pub mod Sides
pub mod Unequal
