use Rattle.system_answers.proofs.reports.text_of_reports.Given as goal

abbrev pub ghosts-report_on_ledger : goal.ghosts-report_on_ledger
ghosts-report_on_ledger g a = record { name = a.blank.name; parts = a.blank.parts }
