mod NextLaws
mod Examples
