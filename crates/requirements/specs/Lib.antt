pub mod Requirements
pub mod Sentences
pub mod Words
pub mod inner
