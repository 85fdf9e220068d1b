use Rattle.std.proofs.Common.{◌≡◌, ◌++◌, Some, map, take}
use Rattle.propagation_points.proofs.states.add_typed.Given as goal

abbrev pub invariant-loop-number : goal.invariant-loop-number
invariant-loop-number l = l.variants ≡ l.fn.variants ++ map (λ type. record { name = l.name; type = type }) (map Some (take l.number-index l.types))
