mod Examples
mod OtherLaws
mod StateLaws
