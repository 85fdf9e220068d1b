use Rattle.std.proofs.Common.{◌≡◌, ℕ, map, take, nat_eq}
use Rattle.std.specs.HashMap.{get}
use Rattle.plain_values.specs.Numbered.{numbered_from}
use Rattle.fact_formulas.specs.Formulas.{flow_at}
use Rattle.flattener.specs.inner.Tables.{flow_seen, row_at}
use Rattle.flattener.proofs.kind.flows_of.Given as goal

abbrev pub invariant-loop-number : goal.invariant-loop-number
invariant-loop-number l = (point : ℕ) → map flow_seen (row_at (get nat_eq l.rows point)) ≡ numbered_from (flow_at point) 0 (take l.number l.flows)
