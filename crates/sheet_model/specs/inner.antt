pub mod Felt
