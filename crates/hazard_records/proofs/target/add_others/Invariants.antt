use Rattle.std.proofs.Common.{◌≡◌, ◌++◌, map, take}
use Rattle.hazard_records.specs.Targets.{other_target}
use Rattle.hazard_records.proofs.target.add_others.Given as goal

abbrev pub invariant-loop-other : goal.invariant-loop-other
invariant-loop-other l = l.targets ≡ l.fn.targets ++ map (other_target l.profile) (take l.other-index l.others)
