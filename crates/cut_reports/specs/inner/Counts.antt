-- Counts of sets, which stay at the last value of a counter.
use Rattle.std.specs.Prelude.{ℕ, ◌≡◌, ◌+◌, ◌<◌, ◌==◌, List, [], ◌∷◌, ◌++◌, length, codes, decimal, slice_index_or, if◌then◌else◌}
use Rattle.fta_outside.specs.Counts.{capped}
use Rattle.cut_reports.specs.Places.{is_among}

-- the end of a line with a count
abbrev pub count_end : ℕ → List ℕ
count_end count = codes " count " ++ decimal count ++ 10 ∷ []

-- the count at this place is so many more, and each other is as before
abbrev pub AddedAt : ℕ → ℕ → List ℕ → List ℕ → Type 0
AddedAt place more before after = (i : ℕ) → slice_index_or after i 0 ≡ (if i == place then capped (slice_index_or before i 0 + more) else slice_index_or before i 0)

-- the count at this place is one more, and each other is as before
abbrev pub CountedAt : ℕ → List ℕ → List ℕ → Type 0
CountedAt place before after = AddedAt place 1 before after

-- the count at each of these places is one more, and each other is as before
abbrev pub CountedEach : List ℕ → List ℕ → List ℕ → Type 0
CountedEach places before after = (i : ℕ) → slice_index_or after i 0 ≡ (if is_among places i then capped (slice_index_or before i 0 + 1) else slice_index_or before i 0)

-- the count at each place is more by that of the same place of others
abbrev pub AddedAll : List ℕ → List ℕ → List ℕ → Type 0
AddedAll more before after = (i : ℕ) → i < length before → slice_index_or after i 0 ≡ capped (slice_index_or before i 0 + slice_index_or more i 0)
