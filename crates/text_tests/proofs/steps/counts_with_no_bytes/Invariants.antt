use Rattle.text_tests.proofs.steps.counts_with_no_bytes.Given as goal

abbrev pub ghosts-count_two : goal.ghosts-count_two
ghosts-count_two g a = record { name = a.blank.name; parts = a.blank.parts }
