use Rattle.std.proofs.Common.{◌≡◌, ℕ, flat_map, take, nat_eq}
use Rattle.std.specs.HashMap.{get}
use Rattle.fact_formulas.specs.Formulas.{condition_to}
use Rattle.flattener.specs.inner.Tables.{values}
use Rattle.flattener.proofs.kind.conditions_of.Given as goal

abbrev pub invariant-loop-clause : goal.invariant-loop-clause
invariant-loop-clause l = (state : ℕ) → values (get nat_eq l.rows state) ≡ flat_map (condition_to state) (take l.clause-index l.clauses)
