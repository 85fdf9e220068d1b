pub mod KindLaws
pub mod GroupLaws
