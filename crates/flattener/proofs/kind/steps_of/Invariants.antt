use Rattle.std.proofs.Common.{◌≡◌, ℕ, flat_map, take, nat_eq}
use Rattle.std.specs.HashMap.{get}
use Rattle.fact_formulas.specs.Formulas.{branches_to}
use Rattle.flattener.specs.inner.Tables.{values}
use Rattle.flattener.proofs.kind.steps_of.Given as goal

abbrev pub invariant-loop-step : goal.invariant-loop-step
invariant-loop-step l = (state : ℕ) → values (get nat_eq l.rows state) ≡ flat_map (branches_to state) (take l.step-index l.steps)
