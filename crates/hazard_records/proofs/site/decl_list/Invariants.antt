use Rattle.std.proofs.Common.{◌≡◌, map, take}
use Rattle.hazard_records.proofs.site.decl_list.Given as goal

abbrev pub invariant-loop-association : goal.invariant-loop-association
invariant-loop-association l = map (λ association. association.now) l.list ≡ take l.association-index l.associations
