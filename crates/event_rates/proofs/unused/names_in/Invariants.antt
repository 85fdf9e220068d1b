use Rattle.std.proofs.Common.{◌≡◌, take}
use Rattle.event_rates.proofs.unused.names_in.Given as goal

abbrev pub invariant-loop-name : goal.invariant-loop-name
invariant-loop-name l = l.names ≡ take l.name-index l.target
