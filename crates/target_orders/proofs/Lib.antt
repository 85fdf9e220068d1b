pub mod Reached
pub mod Said
pub mod Reachable
pub mod LargeLaws
pub mod AloneLaws
pub mod BoundLaws
pub mod CutLaws
pub mod MadeLaws
