use Rattle.std.proofs.Common.{◌≡◌, ◌++◌, take}
use Rattle.plain_values.specs.Numbered.{numbered_from}
use Rattle.model_review.specs.Told.{unreached_of}
use Rattle.model_review.proofs.told.add_unreached_events.Given as goal

abbrev pub invariant-loop-owner : goal.invariant-loop-owner
invariant-loop-owner l = l.found ≡ l.fn.found ++ numbered_from (λ owner component. unreached_of l.view.system l.unreached owner) 0 (take l.owner l.view.numbered.assembly.instance.components)
