use Rattle.std.proofs.Common.{◌≡◌, ◌++◌, map, take}
use Rattle.model_review.specs.declared.finding.Finding.TheVariants.{Unlike}
use Rattle.model_review.proofs.list.add_states_unlike.Given as goal

abbrev pub invariant-loop-state : goal.invariant-loop-state
invariant-loop-state l = l.found ≡ l.fn.found ++ map Unlike (take l.state-index l.states)
