use Rattle.std.proofs.Common.{◌≡◌, ◌++◌, map, take}
use Rattle.hazard_records.specs.Targets.{plain_target}
use Rattle.hazard_records.proofs.target.add_plain.Given as goal

abbrev pub invariant-loop-names : goal.invariant-loop-names
invariant-loop-names l = l.targets ≡ l.fn.targets ++ map plain_target (take l.names-index l.all)
