-- How often a condition holds of some independent events, in whole numbers.
use Rattle.std.specs.Prelude.{ℕ, zero, suc, ◌+◌, ◌*◌, ◌-◌, ◌==◌, Bool, List, [], ◌∷◌, ◌++◌, map, if◌then◌else◌}
use Rattle.std.specs.List.{list_any, sum_by}

-- all sets of some events
unfoldable pub subsets : List ℕ → List (List ℕ)
subsets [] = [] ∷ []
subsets (e ∷ es) = subsets es ++ map (λ set. e ∷ set) (subsets es)

-- whether an event is in a set
abbrev pub occurs : List ℕ → ℕ → Bool
occurs set event = list_any (λ n. n == event) set

-- out of d ^ length events, how often exactly the events of the set occur, where each event e occurs m e times out of d
unfoldable pub times_of : ℕ → (ℕ → ℕ) → List ℕ → List ℕ → ℕ
times_of d m [] set = 1
times_of d m (e ∷ es) set = (if occurs set e then m e else d - m e) * times_of d m es set

-- out of d ^ length events, how often the condition holds
unfoldable pub weight : ℕ → (ℕ → ℕ) → List ℕ → (List ℕ → Bool) → ℕ
weight d m events condition = sum_by (λ set. if condition set then times_of d m events set else 0) (subsets events)

-- so many numbers from one on
unfoldable pub numbers : ℕ → ℕ → List ℕ
numbers zero first = []
numbers (suc count) first = first ∷ numbers count (first + 1)
