use Rattle.std.proofs.Common.{◌≡◌, ℕ, take, nat_eq}
use Rattle.std.specs.HashMap.{get}
use Rattle.fact_formulas.specs.Formulas.{emissions_at}
use Rattle.flattener.specs.inner.Tables.{values}
use Rattle.flattener.proofs.kind.emissions_of.Given as goal

abbrev pub invariant-loop-emission : goal.invariant-loop-emission
invariant-loop-emission l = (point : ℕ) → values (get nat_eq l.rows point) ≡ emissions_at point (take l.emission-index l.emissions)
