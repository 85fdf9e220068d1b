-- The report of the sizes of the sets.
use Rattle.std.specs.Prelude.{ℕ, ◌≡◌, ◌+◌, ◌==◌, List, [], ◌++◌, codes, decimal, slice_index_or, if◌then◌else◌}
use Rattle.fta_outside.specs.Counts.{AreCounts, count_of, has_size}
use Rattle.cut_reports.specs.inner.Counts.{count_end}
use Rattle.cut_reports.specs.inner.Numbered.{numbered_text}

-- the line of a size and the count of its sets; none where there is no such set
abbrev pub order_line : ℕ → ℕ → List ℕ
order_line size count = if count == 0 then [] else codes "order " ++ decimal size ++ count_end count

-- The text of the report: a line for each size of which there are sets, by size, from no event to all of those named.
abbrev pub orders_text : List (List ℕ) → List (List ℕ) → List ℕ
orders_text sets names = order_line 0 (count_of (has_size 0) sets) ++ numbered_text (λ size name. order_line size (count_of (has_size size) sets)) 1 names

-- the line of a size by the counts, of which the first is that of one event
abbrev pub counted_order : List ℕ → ℕ → List ℕ
counted_order counts place = order_line (place + 1) (slice_index_or counts place 0)

-- the counts are those of these sets: of the empty ones, and by size of the others
pub record AreOrders (empty : ℕ) (counts : List ℕ) (sets : List (List ℕ)) : Type 0 where
  pub of_none : empty ≡ count_of (has_size 0) sets
  pub of_some : AreCounts (λ place. has_size (place + 1)) counts sets
