pub mod Form
pub mod Token
pub mod inner
