-- How many events it takes at least, counted by ranges of places.
use Rattle.std.specs.Prelude.{ℕ, ◌*◌, ◌<◌, ◌≤◌, ◌≡◌, ◌&&◌, Bool, true, List, map, nat_le, nat_lt, slice_index_or}
use Rattle.fault_system.specs.Truth.{NumberSet, Has, count_true}
use Rattle.fault_system.specs.Systems.{System}
use Rattle.fault_system.specs.CutSets.{IsCutSet}
use Rattle.fault_system.specs.Rounds.{time_of}
use Rattle.target_orders.specs.declared.bounds.Bound.{Bound}
use Rattle.target_orders.specs.declared.bounds.Tally.{Tally}

-- whether an event has its place in a range: from one place on, and before another
abbrev pub is_placed : List ℕ → ℕ → ℕ → ℕ → Bool
is_placed places from to event = nat_le from (time_of places event) && nat_lt (time_of places event) to

-- how many events of a set have their places in a range
abbrev pub count_placed : List ℕ → ℕ → ℕ → List ℕ → ℕ
count_placed places from to set = count_true (map (is_placed places from to) set)

-- a set has in the range as many events as the bound says, or more
abbrev pub IsMet : List ℕ → List ℕ → Bound → Type 0
IsMet places set bound = bound.low ≤ count_placed places bound.from bound.to set

-- each place of the range of the one is in that of the other
abbrev pub IsWithin : Bound → Bound → Type 0
IsWithin part whole = part.from < part.to → (whole.from ≤ part.from) × (part.to ≤ whole.to)

-- the facts whose bounds a set meets
abbrev pub met_facts : List ℕ → List Bound → List ℕ → NumberSet
met_facts places bounds set fact =
    let bound = slice_index_or bounds fact (record { low = 0; from = 0; to = 0 }) in
    nat_le bound.low (count_placed places bound.from bound.to set)

-- where some parts are true the bound is met, and where the parts are apart so often as parts are true
pub record IsTally (places : List ℕ) (set : List ℕ) (count : ℕ) (tally : Tally) : Type 0 where
  pub some : 0 < count → IsMet places set tally.bound
  pub each : tally.apart ≡ true → count * tally.bound.low ≤ count_placed places tally.bound.from tally.bound.to set

-- each set of events that makes a fact hold meets the bound of the fact
abbrev pub AreBounds : System → List ℕ → List Bound → Type 0
AreBounds system places bounds = (fact : ℕ) (set : List ℕ) → IsCutSet system fact set → Has (met_facts places bounds set) fact
