pub mod Course
pub mod Known
pub mod Tables
pub mod Printed
pub mod Libraries
pub mod Leaving
