use Rattle.propagation_links.proofs.tables.BindingTables.+nearest.Given as goal

abbrev pub decreases-nearest : goal.decreases-nearest
decreases-nearest l = l.count
