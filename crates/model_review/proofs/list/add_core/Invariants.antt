use Rattle.std.proofs.Common.{◌≡◌, ◌++◌, map, take}
use Rattle.model_review.specs.declared.finding.Finding.TheVariants.{CoreRate}
use Rattle.model_review.proofs.list.add_core.Given as goal

abbrev pub invariant-loop-part : goal.invariant-loop-part
invariant-loop-part l = l.found ≡ l.fn.found ++ map CoreRate (take l.part-index l.parts)
