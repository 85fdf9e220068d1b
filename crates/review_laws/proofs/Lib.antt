pub mod Silent
pub mod SilentLines
