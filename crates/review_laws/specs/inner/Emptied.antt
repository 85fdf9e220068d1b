-- Systems in which some facts are taken away.
use Rattle.std.specs.Prelude.{ℕ, ◌≡◌, cond, [], length}
use Rattle.fault_system.specs.Truth.{NumberSet}
use Rattle.fault_system.specs.Systems.{System, IsFact}
use Rattle.fault_system.specs.declared.formula.FactInfo.{FactInfo}
use Rattle.fault_system.specs.declared.formula.Formula.TheVariants.{Or}

-- A system has the facts of another one with their formulas, but for some facts, which nothing makes hold.
pub record IsEmptied (gone : NumberSet) (system emptied : System) : Type 0 where
  pub size : length emptied.facts ≡ length system.facts
  pub each : (n : ℕ) (fact : FactInfo) → IsFact emptied n fact
      → (before : FactInfo) × IsFact system n before × (fact.formula ≡ cond (gone n) (Or []) before.formula)
