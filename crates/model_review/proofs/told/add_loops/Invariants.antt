use Rattle.std.proofs.Common.{◌≡◌, ◌++◌, map, take}
use Rattle.model_review.specs.declared.finding.Finding.TheVariants.{InLoop}
use Rattle.model_review.proofs.told.add_loops.Given as goal

abbrev pub invariant-loop-one : goal.invariant-loop-one
invariant-loop-one l = l.found ≡ l.fn.found ++ map InLoop (take l.one-index l.loops)
