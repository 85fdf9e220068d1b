-- When a target is constant, and when its tree may be too large.
use Rattle.std.specs.Prelude.{ℕ, ◌*◌, ◌<◌, ◌≡◌, Bool, List, length, map, slice_get, Option, Some, None}
use Rattle.fault_system.specs.Truth.{NumberSet, Has}
use Rattle.fault_system.specs.Systems.{System}
use Rattle.fault_system.specs.CutSets.{makes_hold}
use Rattle.fault_system.specs.declared.formula.FactInfo.{FactInfo}
use Rattle.dependency_blocks.specs.Blocks.{BlockNumbers, number_of, size_of}
use Rattle.round_gates.specs.Walks.{places, total}

-- under each set of events of the system the target holds, or under none
abbrev pub IsConstant : System → ℕ → Bool → Type 0
IsConstant system target is =
    (events : NumberSet) → ((n : ℕ) → Has events n → n < length system.events) → makes_hold system target events ≡ is

-- the target holds under some sets of events and not under others
abbrev pub IsVarying : System → ℕ → Type 0
IsVarying system target = (is : Bool) → IsConstant system target is → ⊥

-- how many places the formula of a fact has
abbrev pub fact_places : Option FactInfo → ℕ
fact_places None = 0
fact_places (Some info) = places info.formula

-- how many places all stages of a fact have
abbrev pub stage_places : System → BlockNumbers → ℕ → ℕ
stage_places system numbers fact = size_of numbers (number_of numbers fact) * fact_places (slice_get system.facts fact)

-- how many places all stages of some facts have
abbrev pub all_places : System → BlockNumbers → List ℕ → ℕ
all_places system numbers facts = total (map (stage_places system numbers) facts)

-- the greatest number of places of all stages
abbrev pub most_places : ℕ
most_places = 16000000
