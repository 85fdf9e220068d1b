use Rattle.std.proofs.Common.{◌≡◌, ◌++◌, map, take}
use Rattle.event_rates.specs.Unused.{other_targets}
use Rattle.event_rates.proofs.unused.add_others.Given as goal

abbrev pub invariant-loop-other : goal.invariant-loop-other
invariant-loop-other l = l.targets ≡ l.fn.targets ++ other_targets l.profile l.names (map (λ name. name.now) l.path) (take l.other-index l.others)
