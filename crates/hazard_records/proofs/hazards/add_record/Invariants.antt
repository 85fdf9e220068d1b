use Rattle.std.proofs.Common.{◌≡◌, ◌++◌, map, take}
use Rattle.hazard_records.specs.Hazards.{hazard_of}
use Rattle.hazard_records.proofs.hazards.add_record.Given as goal

abbrev pub invariant-loop-target : goal.invariant-loop-target
invariant-loop-target l = l.hazards ≡ l.fn.hazards ++ map (hazard_of l.site l.spot l.its) (take l.target-index l.targets)
