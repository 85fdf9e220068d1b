pub mod EndLaws
pub mod LinkLaws
pub mod JoinLaws
pub mod FittingLaws
pub mod BoundLaws
mod UnlinkedLaws
pub mod Sample
pub mod Examples
