use Rattle.std.proofs.Common.{◌≡◌, filter, map, not, take}
use Rattle.fault_system.specs.Truth.{member}
use Rattle.forbidden_sets.specs.inner.Families.{single}
use Rattle.forbidden_sets.proofs.forbidden.single_sets.Given as goal

abbrev pub invariant-loop-number : goal.invariant-loop-number
invariant-loop-number l = l.sets ≡ map single (filter (λ number. not (member l.marks number)) (take l.number-index l.numbers))
