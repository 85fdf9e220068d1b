use Rattle.std.proofs.Common.{◌≡◌, ◌++◌, map, take}
use Rattle.uneven_parts.proofs.quiet.add_given_at.Given as goal

abbrev pub invariant-loop-state : goal.invariant-loop-state
invariant-loop-state l = l.given ≡ l.fn.given ++ map (λ state. (l.owner, l.point, state)) (take l.state-index l.states)
