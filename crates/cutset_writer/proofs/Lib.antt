mod SetLines
mod PageTexts
