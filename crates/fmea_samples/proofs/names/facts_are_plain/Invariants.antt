use Rattle.std.proofs.Common.{ℕ, ◌<◌, get_or}
use Rattle.fault_system.specs.declared.formula.FactInfo.{FactInfo}
use Rattle.fmea_rows.specs.inner.Text.{IsPlainField}
use Rattle.fmea_samples.proofs.names.facts_are_plain.Given as goal

abbrev pub invariant-loop-fact : goal.invariant-loop-fact
invariant-loop-fact l = (k : ℕ) (d : FactInfo) → k < l.fact-index → IsPlainField (get_or l.facts k d).name
