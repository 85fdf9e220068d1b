pub mod ChainSteps
pub mod RowLaws
pub mod MemberLaws
pub mod EffectiveLaws
pub mod Examples
