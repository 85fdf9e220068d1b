mod AskedEffects
mod Names
mod Inputs
mod Lacking
mod LikeEnds
mod Grammars
mod Models
mod RequiredLaws
mod OneDue
mod Ran
pub mod Read
mod Chosen
mod Below
mod DerivationLaws
mod Refusals
