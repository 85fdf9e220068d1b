use Rattle.std.proofs.Common.{◌≡◌, ◌++◌, map, take}
use Rattle.model_review.specs.declared.finding.Finding.TheVariants.{Quiet}
use Rattle.model_review.proofs.list.add_states_quiet.Given as goal

abbrev pub invariant-loop-state : goal.invariant-loop-state
invariant-loop-state l = l.found ≡ l.fn.found ++ map Quiet (take l.state-index l.states)
