use Rattle.std.proofs.Common.{◌≡◌, take}
use Rattle.hazard_records.specs.Meaning.{fact_keys}
use Rattle.hazard_records.proofs.keys.fact_keys.Given as goal

abbrev pub invariant-loop-fact : goal.invariant-loop-fact
invariant-loop-fact l = l.keys ≡ fact_keys (take l.fact-index l.facts)
