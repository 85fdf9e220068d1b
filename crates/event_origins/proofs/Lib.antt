mod TableLaws
pub mod PlaceLaws
