use Rattle.std.proofs.Common.{◌≡◌, map, take}
use Rattle.hazard_values.specs.Records.{record_of}
use Rattle.hazard_values.proofs.record.all_said.Given as goal

abbrev pub invariant-loop-record : goal.invariant-loop-record
invariant-loop-record l = l.said ≡ map record_of (take l.record-index l.records)
