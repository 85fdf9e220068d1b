-- How often a condition holds of some independent events, in whole numbers.
use Rattle.std.specs.Prelude.{ℕ, ◌≡◌, ◌==◌, Bool, false, List, [], ◌∷◌, IsTrue}
use Rattle.zdd_store.specs.inner.Family.{has}

-- the event is none of these
unfoldable pub IsApart : ℕ → List ℕ → Type 0
IsApart e [] = Unit {0}
IsApart e (a ∷ events) = ((e == a) ≡ false) × ((a == e) ≡ false) × IsApart e events

-- no event stands twice
unfoldable pub AreDistinct : List ℕ → Type 0
AreDistinct [] = Unit {0}
AreDistinct (e ∷ es) = IsApart e es × AreDistinct es

-- an event that occurs more makes the condition no less true
abbrev pub Grows : (List ℕ → Bool) → Type 0
Grows condition = (set more : List ℕ) → ((e : ℕ) → IsTrue (has set e) → IsTrue (has more e)) → IsTrue (condition set) → IsTrue (condition more)
