mod RowEvents
mod SheetLaws
mod Examples
