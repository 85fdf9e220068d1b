use Rattle.std.proofs.Common.{◌≡◌, map, take}
use Rattle.propagation_links.specs.Bound.{bindings_by}
use Rattle.propagation_links.proofs.tables.kinds_of.Given as goal

abbrev pub invariant-loop-kind : goal.invariant-loop-kind
invariant-loop-kind l = l.kinds ≡ map (λ kind. bindings_by l.braced kind.effective) (take l.kind-index l.kind-items)
