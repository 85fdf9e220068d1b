pub mod DotText
pub mod ReadBack
