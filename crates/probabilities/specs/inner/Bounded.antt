-- Bounds of the probability that the events which occur cover a set of a family.
use Rattle.std.specs.Prelude.{ℕ, ◌+◌, ◌*◌, ◌^◌, ◌<◌, ◌≤◌, ◌≡◌, List, IsTrue}
use Rattle.zdd_store.specs.inner.Family.{Family, least_number, covers}
use Rattle.zdd_families.specs.inner.Steps.{joined}
use Rattle.probabilities.specs.Weights.{weight, numbers}
use Rattle.probabilities.specs.Rates.{Rates, IsWithin}

-- So many parts of the whole s are at most the probability that the family covers the events which occur, of all events below
-- `end`, whatever the probabilities are within their bounds. The first event may be any that the family does not go below.
abbrev pub IsLowerBound : ℕ → Rates → ℕ → Family → ℕ → Type 0
IsLowerBound s rates end family bound =
    (d : ℕ) (m : ℕ → ℕ) (count first : ℕ) → IsWithin s rates d m → first + count ≡ end → first ≤ least_number family
    → bound * d ^ count ≤ weight d m (numbers count first) (covers family) * s

-- and so many parts are at least that probability
abbrev pub IsUpperBound : ℕ → Rates → ℕ → Family → ℕ → Type 0
IsUpperBound s rates end family bound =
    (d : ℕ) (m : ℕ → ℕ) (count first : ℕ) → IsWithin s rates d m → first + count ≡ end → first ≤ least_number family
    → weight d m (numbers count first) (covers family) * s ≤ bound * d ^ count

-- what a family covers without the event, and what it covers with it, which is no less
pub record AreParts (family : Family) (event : ℕ) (lo hi : Family) : Type 0 where
  pub lo_greater : event < least_number lo
  pub hi_greater : event < least_number hi
  pub covering : (set : List ℕ) → covers family set ≡ joined event lo hi set
  pub rises : (set : List ℕ) → IsTrue (covers lo set) → IsTrue (covers hi set)
