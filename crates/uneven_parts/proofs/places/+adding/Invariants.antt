use Rattle.std.proofs.Common.{◌≡◌, ◌++◌, flat_map, map, take, ℕ, List}
use Rattle.uneven_parts.specs.Places.{facts_in}
use Rattle.uneven_parts.proofs.places.+adding.Given as goal

abbrev pub invariant-add_each-loop-operand : goal.invariant-add_each-loop-operand
invariant-add_each-loop-operand l = l.places ≡ l.fn.places ++ flat_map (λ (facts : List ℕ). facts) (map facts_in (take l.operand-index l.operands))
