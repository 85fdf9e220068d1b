mod Examples
mod FittingLaws
mod TableLaws
mod UnusedLaws
