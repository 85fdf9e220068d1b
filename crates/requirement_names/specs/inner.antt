pub mod Named
pub mod Wrong
pub mod Tables
