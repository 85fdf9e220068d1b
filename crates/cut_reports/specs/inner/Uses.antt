-- The report of the events of the sets.
use Rattle.std.specs.Prelude.{ℕ, ◌==◌, List, [], ◌++◌, codes, slice_index_or, if◌then◌else◌}
use Rattle.fta_outside.specs.Counts.{AreCounts, count_of, has_event}
use Rattle.cut_reports.specs.inner.Counts.{count_end}
use Rattle.cut_reports.specs.inner.Numbered.{numbered_text}

-- the line of an event and the count of the sets that have it; none where there is no such set
abbrev pub use_line : List ℕ → ℕ → List ℕ
use_line name count = if count == 0 then [] else codes "event " ++ name ++ count_end count

-- The text of the report: a line for each event that is in some of the sets, by number.
abbrev pub uses_text : List (List ℕ) → List (List ℕ) → List ℕ
uses_text sets names = numbered_text (λ event name. use_line name (count_of (has_event event) sets)) 0 names

-- the line of an event by the counts
abbrev pub counted_use : List ℕ → ℕ → List ℕ → List ℕ
counted_use counts event name = use_line name (slice_index_or counts event 0)

-- the counts are those of the events of these sets
abbrev pub AreUses : List ℕ → List (List ℕ) → Type 0
AreUses counts sets = AreCounts has_event counts sets
