-- What is counted of a family of sets.
use Rattle.std.specs.Prelude.{ℕ, ◌≡◌, ◌+◌, ◌<◌, ◌==◌, Bool, false, List, [], ◌∷◌, Option, Some, length, min, slice_index_or}
use Rattle.std.specs.List.{count_by, list_any}
use Rattle.fta_outside.specs.declared.counts.FamilyCounts.{FamilyCounts}

-- a count as it is kept: the number itself, but no more than 18446744073709551615
abbrev pub capped : ℕ → ℕ
capped number = min number 18446744073709551615

-- how many of the sets pass a test, as it is kept
abbrev pub count_of : (List ℕ → Bool) → List (List ℕ) → ℕ
count_of test sets = capped (count_by test sets)

-- whether a set has so many events
abbrev pub has_size : ℕ → List ℕ → Bool
has_size size set = length set == size

-- whether a set has this event
abbrev pub has_event : ℕ → List ℕ → Bool
has_event event set = list_any (λ n. event == n) set

-- whether a set has this event alone
abbrev pub is_alone : ℕ → List ℕ → Bool
is_alone event [] = false
is_alone event (only ∷ []) = only == event
is_alone event (first ∷ second ∷ others) = false

-- whether an event alone is one of the sets
abbrev pub is_single : List (List ℕ) → ℕ → Bool
is_single sets event = list_any (is_alone event) sets

-- each of these is the count of the sets that pass the test of its place
abbrev pub AreCounts : (ℕ → List ℕ → Bool) → List ℕ → List (List ℕ) → Type 0
AreCounts tests counts sets = (i : ℕ) → i < length counts → slice_index_or counts i 0 ≡ count_of (tests i) sets

-- the marks are those of the events that alone are one of these sets
abbrev pub AreMarks : List Bool → List (List ℕ) → Type 0
AreMarks marks sets = (event : ℕ) → event < length marks → slice_index_or marks event false ≡ is_single sets event

-- These are the counts of these sets: by size, by event, and which events alone are one of them.
pub record AreCountsOf (counts : FamilyCounts) (sets : List (List ℕ)) : Type 0 where
  pub of_orders : AreCounts has_size counts.orders.items sets
  pub of_events : AreCounts has_event counts.uses.items sets
  pub of_singles : AreMarks counts.singles.items sets

-- the counts are for a report of this width: for so many events
pub record HaveWidth (width : Option ℕ) (counts : FamilyCounts) : Type 0 where
  pub of_events : width ≡ Some (length counts.uses.items)
  pub of_orders : length counts.orders.items ≡ length counts.uses.items + 1
  pub of_singles : length counts.singles.items ≡ length counts.uses.items
