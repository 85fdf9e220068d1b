use Rattle.std.proofs.Common.{◌≡◌, take}
use Rattle.plain_values.specs.Numbered.{numbered_from}
use Rattle.event_rates.specs.Unused.{unused_at}
use Rattle.event_rates.proofs.unused.all_unused.Given as goal

abbrev pub invariant-loop-number : goal.invariant-loop-number
invariant-loop-number l = l.rates ≡ numbered_from (unused_at l.tables.profile l.names l.tables.instance) 0 (take l.number l.tables.instance.components)
