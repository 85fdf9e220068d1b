-- Beside specs/Points.antt: what no clause of `run` reaches.
use Rattle.std.specs.Prelude.{◌≢◌, ℕ, AllPairs, List}

-- ---- points

-- no two items have one name
abbrev pub NamesDiffer : {Item : Type 0} → (Item → List ℕ) → List Item → Type 0
NamesDiffer name_of items = AllPairs (λ a b. name_of a ≢ name_of b) items
