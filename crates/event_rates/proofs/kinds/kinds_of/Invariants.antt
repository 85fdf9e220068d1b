use Rattle.std.proofs.Common.{◌≡◌, map, take}
use Rattle.event_rates.specs.inner.Tables.{effective_rates}
use Rattle.event_rates.proofs.kinds.kinds_of.Given as goal

abbrev pub invariant-loop-kind : goal.invariant-loop-kind
invariant-loop-kind l = l.kinds ≡ map (λ kind. effective_rates l.profile l.instance.packages kind.effective) (take l.kind-index l.kind-items)
