use Rattle.std.proofs.Common.{◌≡◌, take}
use Rattle.hazard_records.proofs.target.names_in.Given as goal

abbrev pub invariant-loop-name : goal.invariant-loop-name
invariant-loop-name l = l.names ≡ take l.name-index l.path
