pub mod PlaceLaws
pub mod Sample
pub mod Examples
