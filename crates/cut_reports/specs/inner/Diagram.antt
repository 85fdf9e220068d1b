-- What is counted of a family on its diagram.
use Rattle.std.specs.Prelude.{ℕ, zero, suc, ◌≡◌, ◌+◌, ◌*◌, ◌<◌, ◌≤◌, ◌||◌, Bool, false, List, length, slice_index_or}
use Rattle.std.specs.List.{count_by}
use Rattle.zdd_store.specs.inner.Store.{Families, family_at, family_of}
use Rattle.zdd_store.specs.declared.id.Id.{Id}
use Rattle.zdd_store.specs.declared.id.Node.{Node}
use Rattle.fta_outside.specs.Counts.{capped, has_event, is_single}
use Rattle.cut_reports.specs.inner.Counts.{AddedAt}

-- these are the counts of the sets of the families of a store, from the first position on
pub record AreBelow (store : Families) (counts : List ℕ) : Type 0 where
  pub each : (i : ℕ) → i < length counts → slice_index_or counts i 0 ≡ capped (length (family_at store i))
  pub inside : (i : ℕ) → i < length counts → i < length store

-- The weight of a node was passed on to its children, which stand before it, and its event was counted for the sets below it.
pub record PassedOn (counts : List ℕ) (node : Node) (position : ℕ) (weights weights_after uses uses_after : List ℕ) : Type 0 where
  pub between : List ℕ
  pub lo_before : node.lo.position < position
  pub hi_before : node.hi.position < position
  pub to_lo : AddedAt node.lo.position (slice_index_or weights position 0) weights between
  pub to_hi : AddedAt node.hi.position (slice_index_or weights position 0) between weights_after
  pub to_event : AddedAt node.var (capped (slice_index_or weights position 0 * slice_index_or counts node.hi.position 0)) uses uses_after

-- how many sets of the family at a position have an event
abbrev pub count_with : Families → ℕ → ℕ → ℕ
count_with store event position = count_by (has_event event) (family_at store position)

-- the sum of a value of each of so many numbers
unfoldable pub sum_below : (ℕ → ℕ) → ℕ → ℕ
sum_below value zero = 0
sum_below value (suc n) = sum_below value n + value n

-- in how many sets an event stands, by the positions below this one, each taken as often as its weight
abbrev pub weighed : Families → List ℕ → ℕ → ℕ → ℕ
weighed store weights event position = sum_below (λ i. slice_index_or weights i 0 * count_with store event i) position

-- What is counted of the events so far, and what is still to be counted of the positions below this one, is together what is
-- counted of the family at `root`; and no count is greater than a count is kept.
abbrev pub IsSpread : Families → ℕ → List ℕ → List ℕ → ℕ → Type 0
IsSpread store root uses weights position =
    (event : ℕ) → event < length uses → (slice_index_or uses event 0 ≤ 18446744073709551615) × (capped (slice_index_or uses event 0 + weighed store weights event position) ≡ capped (count_with store event root))

-- The events that alone are one of the sets of the family at `part` are marked, but for those that are left in the family at `id`.
abbrev pub AreMarkedTo : Families → Id → Id → List Bool → Type 0
AreMarkedTo store part id marks = (event : ℕ) → event < length marks → (slice_index_or marks event false || is_single (family_of store id) event) ≡ is_single (family_of store part) event
