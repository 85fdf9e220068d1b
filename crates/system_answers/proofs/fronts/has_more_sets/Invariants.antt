use Rattle.system_answers.proofs.fronts.has_more_sets.Given as goal

abbrev pub ghosts-has_more_behind : goal.ghosts-has_more_behind
ghosts-has_more_behind a = record { name = a.blank.name; parts = a.blank.parts }
