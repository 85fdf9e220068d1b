pub mod KnowsLaws
pub mod Keys
pub mod Gathering
pub mod Examples
pub mod DuplicateLaws
pub mod FoundLaws
pub mod Loops
