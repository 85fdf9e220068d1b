-- Duals of formulas and of systems.
use Rattle.std.specs.Prelude.{ℕ, ◌+◌, ◌-◌, ◌==◌, if◌then◌else◌, List, [], length, map}
use Rattle.fault_system.specs.Systems.{System}
use Rattle.fault_system.specs.declared.formula.FactInfo.{FactInfo}
use Rattle.fault_system.specs.declared.formula.Formula.{Formula, fold-Formula}
use Rattle.fault_system.specs.declared.formula.Formula.TheVariants.{Event, Fact, And, Or, AtLeast}
use Rattle.fault_system.specs.declared.formula.Formula.TheOpen as open_one
use Rattle.fault_system.specs.declared.formula.Formula.TheOpen.{Formula-F}

-- At least k of n parts are false where at most k - 1 are true, which is where at least n + 1 - k of their duals are true. At least
-- none is never false, and at least more than there are always is.
abbrev pub dual_count : ℕ → List Formula → Formula
dual_count k parts = if k == 0 then Or [] else AtLeast (length parts + 1 - k) parts

-- one formula, with the dual of each part in its place: `And` and `Or` are exchanged, and what is always true is never true
abbrev pub dual_step : Formula-F Formula → Formula
dual_step open_one.True = Or []
dual_step (open_one.Event n) = Event n
dual_step (open_one.Fact n) = Fact n
dual_step (open_one.And parts) = Or parts
dual_step (open_one.Or parts) = And parts
dual_step (open_one.AtLeast k parts) = dual_count k parts

-- the dual of a formula: true exactly where the formula is false when each event and each fact is the other way round
abbrev pub dual_formula : Formula → Formula
dual_formula = fold-Formula Formula dual_step

-- the dual of a fact
abbrev pub dual_fact : FactInfo → FactInfo
dual_fact fact = record { name = fact.name; owner = fact.owner; formula = dual_formula fact.formula }

-- the dual of a system: of each fact the dual, and the same events
abbrev pub dual_of : System → System
dual_of system = record { facts = map dual_fact system.facts; events = system.events }
