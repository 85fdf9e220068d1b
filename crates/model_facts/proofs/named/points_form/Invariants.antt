use Rattle.std.proofs.Common.{take}
use Rattle.std.specs.List.{AllByRecursion}
use Rattle.aadl_syntax.specs.inner.Token.{IsIdentifier}
use Rattle.model_facts.proofs.named.points_form.Given as goal

abbrev pub invariant-loop-point : goal.invariant-loop-point
invariant-loop-point l = AllByRecursion (λ point. IsIdentifier point.name) (take l.point-index l.points)
