pub mod Named
pub mod Declarations
pub mod Origins
pub mod Places
pub mod inner
