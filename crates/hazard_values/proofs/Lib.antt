mod Examples
mod Left
mod ValueLaws
