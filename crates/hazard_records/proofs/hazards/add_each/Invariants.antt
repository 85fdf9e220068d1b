use Rattle.std.proofs.Common.{◌≡◌, ◌++◌, flat_map, take}
use Rattle.hazard_records.specs.Hazards.{record_hazards}
use Rattle.hazard_records.proofs.hazards.add_each.Given as goal

abbrev pub invariant-loop-record : goal.invariant-loop-record
invariant-loop-record l = l.hazards ≡ l.fn.hazards ++ flat_map (record_hazards l.site l.spot l.targets) (take l.record-index l.records)
