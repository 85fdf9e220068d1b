pub mod Listed
pub mod Trails
pub mod Walks
pub mod Lending
pub mod SetText
pub mod Scanning
