use Rattle.std.proofs.Common.{◌≡◌, ◌++◌, map, take}
use Rattle.model_review.specs.declared.finding.Finding.TheVariants.{StrayPath}
use Rattle.model_review.proofs.list.add_strays.Given as goal

abbrev pub invariant-loop-stray : goal.invariant-loop-stray
invariant-loop-stray l = l.found ≡ l.fn.found ++ map StrayPath (take l.stray-index l.strays)
