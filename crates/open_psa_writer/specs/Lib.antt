pub mod Mef
pub mod Numbers
pub mod Sound
pub mod TreeMef
pub mod Truth
pub mod inner
