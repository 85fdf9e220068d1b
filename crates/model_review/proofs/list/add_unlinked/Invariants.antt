use Rattle.std.proofs.Common.{◌≡◌, ◌++◌, map, take}
use Rattle.model_review.specs.declared.finding.Finding.TheVariants.{NoLink}
use Rattle.model_review.proofs.list.add_unlinked.Given as goal

abbrev pub invariant-loop-one : goal.invariant-loop-one
invariant-loop-one l = l.found ≡ l.fn.found ++ map NoLink (take l.one-index l.unlinked)
