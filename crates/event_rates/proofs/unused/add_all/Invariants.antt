use Rattle.std.proofs.Common.{◌≡◌, ◌++◌, filter, map, take}
use Rattle.event_rates.specs.Unused.{names_none}
use Rattle.event_rates.proofs.unused.add_all.Given as goal

abbrev pub invariant-loop-target : goal.invariant-loop-target
invariant-loop-target l = l.targets ≡ l.fn.targets ++ filter (names_none l.names (map (λ name. name.now) l.path)) (take l.target-index l.all)
