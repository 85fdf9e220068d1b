mod FoundLaws
mod NamesLaws
