use Rattle.std.proofs.Common.{◌≡◌, ◌++◌, take}
use Rattle.event_rates.specs.Unused.{rates_at}
use Rattle.event_rates.proofs.unused.add_rates.Given as goal

abbrev pub invariant-loop-target : goal.invariant-loop-target
invariant-loop-target l = l.rates ≡ l.fn.rates ++ rates_at l.number l.spot (take l.target-index l.targets)
