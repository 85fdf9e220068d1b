use Rattle.std.proofs.Common.{◌≡◌, ◌++◌, map, take}
use Rattle.model_review.specs.declared.finding.Finding.TheVariants.{NoSingle}
use Rattle.model_review.proofs.told.add_no_single.Given as goal

abbrev pub invariant-loop-event : goal.invariant-loop-event
invariant-loop-event l = l.found ≡ l.fn.found ++ map NoSingle (take l.event-index l.events)
