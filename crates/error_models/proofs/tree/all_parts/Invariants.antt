use Rattle.std.proofs.Common.{◌≡◌, map, take}
use Rattle.instantiator.specs.Components.{parts_of}
use Rattle.error_models.proofs.tree.all_parts.Given as goal

abbrev pub invariant-loop-kind : goal.invariant-loop-kind
invariant-loop-kind l = l.parts ≡ map (λ kind. parts_of l.instance.packages kind.effective) (take l.kind-index l.kind-items)
