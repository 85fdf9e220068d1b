-- Systems with less in them, and the events that are sets of a family alone.
use Rattle.std.specs.Prelude.{ℕ, ◌==◌, Bool, if◌then◌else◌, List, [], ◌∷◌, map, Contains}
use Rattle.fault_system.specs.Truth.{Has, member}
use Rattle.fault_system.specs.Systems.{System}
use Rattle.fault_system.specs.declared.formula.FactInfo.{FactInfo}
use Rattle.fault_system.specs.declared.formula.Formula.{Formula, fold-Formula}
use Rattle.fault_system.specs.declared.formula.Formula.TheVariants.{True, Event, Fact, And, Or, AtLeast}
use Rattle.fault_system.specs.declared.formula.Formula.TheOpen as open_one
use Rattle.fault_system.specs.declared.formula.Formula.TheOpen.{Formula-F}
use Rattle.zdd_store.specs.inner.Family.{Family}

-- an event, or what is never true where it is one of those that are dropped
abbrev pub thin_event : List Bool → ℕ → Formula
thin_event dropped number = if member dropped number then Or [] else Event number

-- a fact, or what is never true where it is the one that is left out
abbrev pub thin_reference : ℕ → ℕ → Formula
thin_reference but number = if number == but then Or [] else Fact number

-- one formula, with what is left of each part in its place
abbrev pub thin_step : List Bool → ℕ → Formula-F Formula → Formula
thin_step dropped but open_one.True = True
thin_step dropped but (open_one.Event n) = thin_event dropped n
thin_step dropped but (open_one.Fact n) = thin_reference but n
thin_step dropped but (open_one.And parts) = And parts
thin_step dropped but (open_one.Or parts) = Or parts
thin_step dropped but (open_one.AtLeast k parts) = AtLeast k parts

-- what is left of a formula in which some events and one fact are never true
abbrev pub thin_formula : List Bool → ℕ → Formula → Formula
thin_formula dropped but = fold-Formula Formula (thin_step dropped but)

-- a fact with what is left of its formula
abbrev pub thin_fact : List Bool → ℕ → FactInfo → FactInfo
thin_fact dropped but fact = record { name = fact.name; owner = fact.owner; formula = thin_formula dropped but fact.formula }

-- the system in whose formulas some events and one fact are never true
abbrev pub thin_of : List Bool → ℕ → System → System
thin_of dropped but system = record { facts = map (thin_fact dropped but) system.facts; events = system.events }

-- each of some events is a set of a family alone
abbrev pub AreSingles : Family → List Bool → Type 0
AreSingles family alone = (n : ℕ) → Has (member alone) n → Contains family (n ∷ [])
