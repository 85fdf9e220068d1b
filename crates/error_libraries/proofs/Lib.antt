pub mod AlongLaws
pub mod SearchLaws
pub mod Ends
pub mod MarkLaws
pub mod Keys
pub mod Remembering
pub mod PrintedLaws
pub mod Sample
