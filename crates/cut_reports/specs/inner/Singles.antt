-- The report of the events that alone are one of the sets.
use Rattle.std.specs.Prelude.{ℕ, ◌≡◌, ◌<◌, ◌||◌, Bool, false, List, [], ◌∷◌, ◌++◌, codes, length, slice_index_or, if◌then◌else◌}
use Rattle.fta_outside.specs.Counts.{is_single}
use Rattle.cut_reports.specs.inner.Numbered.{numbered_text}

-- the line of an event that alone is one of the sets
abbrev pub single_line : List ℕ → List ℕ
single_line name = codes "single " ++ name ++ 10 ∷ []

-- The text of the report: a line for each event that alone is one of the sets, by number.
abbrev pub singles_text : List (List ℕ) → List (List ℕ) → List ℕ
singles_text sets names = numbered_text (λ event name. if is_single sets event then single_line name else []) 0 names

-- the line of an event that is marked
abbrev pub marked_line : List Bool → ℕ → List ℕ → List ℕ
marked_line marks event name = if slice_index_or marks event false then single_line name else []

-- each mark is set that was, or is among others
abbrev pub MarkedAll : List Bool → List Bool → List Bool → Type 0
MarkedAll more before after = (i : ℕ) → i < length before → slice_index_or after i false ≡ (slice_index_or before i false || slice_index_or more i false)
