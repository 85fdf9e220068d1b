use Rattle.std.proofs.Common.{◌≡◌, map, take}
use Rattle.error_models.specs.Below.{machine_of}
use Rattle.event_origins.specs.Declarations.{declarations_in}
use Rattle.event_origins.proofs.kinds.declarations_of_kinds.Given as goal

abbrev pub invariant-loop-kind : goal.invariant-loop-kind
invariant-loop-kind l = l.kinds ≡ map (λ kind. declarations_in (machine_of l.instance.packages kind.effective) kind.effective) (take l.kind-index l.kind-items)
