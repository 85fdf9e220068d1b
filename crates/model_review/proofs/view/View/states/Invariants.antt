use Rattle.std.proofs.Common.{◌≡◌, flat_map}
use Rattle.std.specs.Prelude.{option_to_list}
use Rattle.plain_values.specs.Numbered.{numbers_below}
use Rattle.model_review.specs.Seen.{state_number}
use Rattle.model_review.proofs.view.View.states.Given as goal

abbrev pub invariant-loop-state : goal.invariant-loop-state
invariant-loop-state l = l.states ≡ flat_map (λ state. option_to_list (state_number l.self l.owner state)) (numbers_below l.state)
