use Rattle.std.proofs.Common.{◌≡◌, take}
use Rattle.plain_values.specs.Numbered.{numbered_from}
use Rattle.propagation_links.specs.Bound.{carried_in}
use Rattle.propagation_links.proofs.carried.carried_of.Given as goal

abbrev pub invariant-loop-number : goal.invariant-loop-number
invariant-loop-number l = l.carried ≡ numbered_from (λ number component. carried_in l.fn.tables number) 0 (take l.number l.fn.tables.components)
