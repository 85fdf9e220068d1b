use Rattle.std.proofs.Common.{◌≡◌, ◌++◌, map, take}
use Rattle.model_review.specs.declared.finding.Finding.TheVariants.{InModes}
use Rattle.model_review.proofs.list.add_modal.Given as goal

abbrev pub invariant-loop-part : goal.invariant-loop-part
invariant-loop-part l = l.found ≡ l.fn.found ++ map InModes (take l.part-index l.parts)
