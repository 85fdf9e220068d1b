use Rattle.listing_changes.proofs.telling.tell_sets.Given as goal

abbrev pub ghosts-tell_on_ledger : goal.ghosts-tell_on_ledger
ghosts-tell_on_ledger a = record { name = a.blank.name; parts = a.blank.parts }
