use Rattle.std.proofs.Common.{◌≡◌, map, take}
use Rattle.event_rates.proofs.kinds.of_decl.Given as goal

abbrev pub invariant-loop-association : goal.invariant-loop-association
invariant-loop-association l = map (λ association. association.now) l.list ≡ take l.association-index l.associations
