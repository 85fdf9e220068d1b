use Rattle.cutset_writer.proofs.listing_page.ListingPage.write.Given as goal

abbrev pub ghosts-write_on_ledger : goal.ghosts-write_on_ledger
ghosts-write_on_ledger g a = record { name = a.blank.name; parts = a.blank.parts }
