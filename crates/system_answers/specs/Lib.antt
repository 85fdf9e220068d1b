pub mod Voices
pub mod Targets
pub mod Trees
pub mod Probability
pub mod Galileo
pub mod Texts
pub mod Derivations
pub mod inner
