use Rattle.std.proofs.Common.{◌≡◌, ◌++◌, flat_map}
use Rattle.plain_values.specs.Numbered.{numbers_below}
use Rattle.model_review.proofs.walks.add_of_states.Given as goal

abbrev pub invariant-loop-state : goal.invariant-loop-state
invariant-loop-state g l = l.found ≡ l.fn.found ++ flat_map (g.S.StateFinding.finding l.told l.view l.owner l.model) (numbers_below l.state)
