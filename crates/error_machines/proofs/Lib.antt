pub mod StateLaws
mod Examples
mod FirstLaws
