-- Cut sets of a target, and the minimal ones (NUREG-0492).
use Rattle.std.specs.Prelude.{ℕ, ◌≡◌, Bool, List, length}
use Rattle.fault_system.specs.Truth.{NumberSet, Has, member, set_of}
use Rattle.plain_values.specs.Rising.{RisesWithin}
use Rattle.fault_system.specs.Systems.{System, Holds, holds_of}

-- a set of events is written as the rising list of their numbers
abbrev pub IsEventSet : System → List ℕ → Type 0
IsEventSet system set = RisesWithin 0 (length system.events) set

-- a cut set of a target is a set of events under which the target holds
abbrev pub IsCutSet : System → ℕ → List ℕ → Type 0
IsCutSet system target set = IsEventSet system set × Holds system (set_of set) target

-- each number of the one is in the other
abbrev pub IsSubset : List ℕ → List ℕ → Type 0
IsSubset part whole = (n : ℕ) → Has (set_of part) n → Has (set_of whole) n

-- a cut set is minimal if no proper subset of it is a cut set
abbrev pub IsMinimalCutSet : System → ℕ → List ℕ → Type 0
IsMinimalCutSet system target set =
    IsCutSet system target set × ((other : List ℕ) → IsCutSet system target other → IsSubset other set → other ≡ set)

-- whether the target holds under a set of events
abbrev pub makes_hold : System → ℕ → NumberSet → Bool
makes_hold system target events = member (holds_of system events) target
