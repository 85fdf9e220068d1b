pub mod Probable
