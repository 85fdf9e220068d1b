use Rattle.std.proofs.Common.{◌≡◌, ◌++◌, map, take}
use denote.Ref.{Bor}
use Rattle.aadl_syntax.specs.declared.error_model.Association.{Association}
use Rattle.event_rates.specs.Unused.{unused_among}
use Rattle.event_rates.proofs.unused.add_among.Given as goal

abbrev pub invariant-loop-association : goal.invariant-loop-association
invariant-loop-association l = l.rates ≡ l.fn.rates ++ unused_among l.profile l.names l.number (map (λ name. name.now) l.path) (map (λ (association : Bor Association). association.now) (take l.association-index l.associations))
