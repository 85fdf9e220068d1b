use Rattle.std.proofs.Common.{◌≡◌, ◌++◌, filter, map, take}
use Rattle.model_review.specs.Seen.{is_error_event}
use Rattle.model_review.specs.declared.finding.Finding.TheVariants.{UnusedEvent}
use Rattle.model_review.proofs.told.add_unused.Given as goal

abbrev pub invariant-loop-event : goal.invariant-loop-event
invariant-loop-event l = l.found ≡ l.fn.found ++ map UnusedEvent (filter (is_error_event l.view) (take l.event-index l.unused))
