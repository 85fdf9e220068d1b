pub mod Picture
pub mod Shown
pub mod TreePicture
pub mod Words
pub mod inner
