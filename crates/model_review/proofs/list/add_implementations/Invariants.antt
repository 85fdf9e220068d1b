use Rattle.std.proofs.Common.{◌≡◌, ◌++◌, map, take}
use Rattle.model_review.specs.declared.finding.Finding.TheVariants.{TypeRoot}
use Rattle.model_review.proofs.list.add_implementations.Given as goal

abbrev pub invariant-loop-one : goal.invariant-loop-one
invariant-loop-one l = l.found ≡ l.fn.found ++ map TypeRoot (take l.one-index l.all)
