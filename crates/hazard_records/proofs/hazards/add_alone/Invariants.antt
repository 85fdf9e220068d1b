use Rattle.std.proofs.Common.{◌≡◌, ◌++◌, flat_map, take}
use Rattle.hazard_records.specs.Hazards.{alone_hazard}
use Rattle.hazard_records.proofs.hazards.add_alone.Given as goal

abbrev pub invariant-loop-target : goal.invariant-loop-target
invariant-loop-target l = l.hazards ≡ l.fn.hazards ++ flat_map (alone_hazard l.site l.spot) (take l.target-index l.targets)
