use Rattle.std.proofs.Common.{◌≡◌, ◌++◌, map, take}
use Rattle.event_rates.proofs.rates.names_of.Given as goal

abbrev pub invariant-loop-name : goal.invariant-loop-name
invariant-loop-name l = l.names ≡ map (λ name. name.now) l.path ++ take l.name-index l.key
