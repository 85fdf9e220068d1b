-- Rows of the table of at least so many of some families: the entry at k has the minimal sets of at least k of them, as far as
-- sets are asked for.
use Rattle.std.specs.Prelude.{ℕ, ◌-◌, ◌<◌, ◌≤◌, ◌≡◌, Bool, ◌&&◌, ◌||◌, List, length, slice_index_or}
use Rattle.zdd_store.specs.inner.Family.{Family, covers, IsAntichain}
use Rattle.zdd_store.specs.inner.Store.{Families, IsIn, family_of}
use Rattle.zdd_store.specs.inner.Answers.{IsLeastUpTo}
use Rattle.zdd_store.specs.declared.id.Id.{Id}
use Rattle.zdd_families.specs.inner.Steps.{IsFound}
use Rattle.zdd_families.specs.inner.Unions.{some_of}
use Rattle.zdd_families.specs.declared.choice.Run.{Run}

-- a number of the store whose family has no set within another
pub record IsMinimalNumber (store : Families) (id : Id) : Type 0 where
  pub found : IsIn store id
  pub apart : IsAntichain (family_of store id)

-- A run ends before a place of some parts: so many times one part is said, and its number has the minimal sets of this part.
pub record IsRun (before after : Families) (parts : List Id) (end : ℕ) (run : Run) : Type 0 where
  pub some : 0 < run.times
  pub within : run.times ≤ end
  pub same : (at : ℕ) (d : Id) → end - run.times ≤ at → at < end → slice_index_or parts at d ≡ slice_index_or parts (end - run.times) d
  pub part : IsMinimalNumber after run.part
  pub covering : (d : Id) (set : List ℕ) → covers (family_of after run.part) set ≡ covers (family_of before (slice_index_or parts (end - run.times) d)) set

-- the entry at each place k of a row, from the place `first` on, has the minimal sets of at least k of the families
abbrev pub IsRow : ℕ → ℕ → Families → List Family → List Id → Type 0
IsRow first most store families row =
    (k : ℕ) (d : Id) → first ≤ k → k < length row → IsFound store 0 (IsLeastUpTo most (some_of k families)) (slice_index_or row k d)

-- the sets that `here` covers, and those that both the part and `below` cover
abbrev pub with_part : Family → Family → Family → List ℕ → Bool
with_part part below here set = covers here set || (covers part set && covers below set)

-- an entry of the row with one part more, which is said so many times: it is of the entries of the row at its place and so many
-- places below, or at 0 where there are fewer
abbrev pub IsEntry : ℕ → Families → Families → Id → ℕ → List Id → ℕ → Id → Type 0
IsEntry most before after part times row k entry =
    (d : Id) → IsFound after 0 (IsLeastUpTo most (with_part (family_of before part) (family_of before (slice_index_or row (k - times) d)) (family_of before (slice_index_or row k d)))) entry

-- the row with one part more, of which the entries from `low` to `high` are made, and the others stay as they were
pub record IsNextRow (most : ℕ) (before after : Families) (part : Id) (times low high : ℕ) (row next : List Id) : Type 0 where
  pub long : length next ≡ length row
  pub made : (k : ℕ) (d : Id) → low ≤ k → k ≤ high → IsEntry most before after part times row k (slice_index_or next k d)
  pub lower : (k : ℕ) (d : Id) → k < low → slice_index_or next k d ≡ slice_index_or row k d
  pub higher : (k : ℕ) (d : Id) → high < k → slice_index_or next k d ≡ slice_index_or row k d
