use Rattle.std.proofs.Common.{◌≡◌, ◌++◌, take, drop}
use Rattle.hazard_records.specs.Meaning.{bare_name}
use Rattle.hazard_records.proofs.keys.bare_name.Given as goal

abbrev pub invariant-loop-number : goal.invariant-loop-number
invariant-loop-number l = bare_name l.name ≡ take l.number l.name ++ bare_name (drop l.number l.name)
