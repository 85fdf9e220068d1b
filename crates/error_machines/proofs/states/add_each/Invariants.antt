use Rattle.std.proofs.Common.{◌≡◌, ◌++◌, Some, map, take}
use Rattle.error_machines.proofs.states.add_each.Given as goal

abbrev pub invariant-loop-number : goal.invariant-loop-number
invariant-loop-number l = l.marks ≡ l.fn.marks ++ map (λ type. l.mark) (map Some (take l._number-index l.types))
