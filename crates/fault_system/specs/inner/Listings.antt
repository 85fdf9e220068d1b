-- Beside specs/Listings.antt: what no clause of `run` reaches.
use Rattle.std.specs.Prelude.{ℕ, zero, suc, ◌+◌, ◌≡◌, Bool, List, [], ◌∷◌, ◌++◌, length, map, filter, Option, unwrap_or}
use Rattle.fault_system.specs.Systems.{System}
use Rattle.fault_system.specs.inner.CutSets.{is_minimal}
use Rattle.fault_system.specs.Listings.{sets_after, first_of, has_more}

-- the sets of `size` of the `count` numbers from low on, each a rising list, in the order of their first difference
abbrev pub choose : ℕ → ℕ → ℕ → List (List ℕ)
choose zero low count = [] ∷ []
choose (suc size) low zero = []
choose (suc size) low (suc count) = map (λ set. low ∷ set) (choose size (low + 1) count) ++ choose (suc size) (low + 1) count

-- the sets of at most `size` of the numbers below `count`, in listing order
abbrev pub rising_sets_up_to : ℕ → ℕ → List (List ℕ)
rising_sets_up_to zero count = choose zero 0 count
rising_sets_up_to (suc size) count = rising_sets_up_to size count ++ choose (suc size) 0 count

-- the listing computed: of all sets of events in listing order, those that are minimal
abbrev pub listing : System → ℕ → Option ℕ → List (List ℕ)
listing system target most =
    let count = length system.events in filter (is_minimal system target) (rising_sets_up_to (unwrap_or most count) count)

-- a page of a listing: the first sets after a given one, as many as the limit lets, and whether a further one follows
pub record IsPage (sets : List (List ℕ)) (after : Option (List ℕ)) (limit : Option ℕ) (page : List (List ℕ)) (more : Bool) : Type 0 where
  pub page_is : page ≡ first_of limit (sets_after after sets)
  pub more_is : more ≡ has_more limit (sets_after after sets)
