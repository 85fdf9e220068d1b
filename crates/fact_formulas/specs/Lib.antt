pub mod Numbered
pub mod Formulas
pub mod Facts
pub mod Flat
pub mod inner
