use Rattle.std.proofs.Common.{◌≡◌, take}
use Rattle.plain_values.specs.Numbered.{numbered_from}
use Rattle.propagation_links.specs.Bound.{bounds_in}
use Rattle.propagation_links.proofs.bound.bounds_of.Given as goal

abbrev pub invariant-loop-number : goal.invariant-loop-number
invariant-loop-number l = l.bounds ≡ numbered_from (λ number component. bounds_in l.fn.tables number) 0 (take l.number l.fn.tables.components)
