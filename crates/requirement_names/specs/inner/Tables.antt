-- What a table of names knows.
use Rattle.std.specs.Prelude.{◌≡◌, ℕ, Bool, true, false, List, Option, Some, None, IsSome, position, cond, nat_eq}
use denote.Ref.{Bor}
use Rattle.std.specs.Cmp.Lexicographic.{pointwise}
use Rattle.plain_values.specs.Name.{is_same_text}

-- whether two texts are the same
abbrev pub same_text : Bor (List ℕ) → Bor (List ℕ) → Bool
same_text a b = pointwise nat_eq a.now b.now

-- whether a name is this text
abbrev pub has_text : Bor (List ℕ) → List ℕ → Bool
has_text key name = is_same_text name key.now

-- the table gives each key the place of the first of the items that has it
abbrev pub Knows : {Key Item : Type 0} → (Key → Item → Bool) → List Item → (Key → Option ℕ) → Type 0
Knows {Key} has items table = (key : Key) → table key ≡ position (has key) items

-- The key stands in the new table with this number, as it did not in the old one, or else the new one is the old one, which has it.
abbrev pub Added : {Key : Type 0} → (Key → Key → Bool) → (Key → Option ℕ) → (Key → Option ℕ) → Key → ℕ → Bool → Type 0
Added {Key} same old new key number true = (old key ≡ None) × ((other : Key) → new other ≡ cond (same key other) (Some number) (old other))
Added {Key} same old new key number false = IsSome (old key) × ((other : Key) → new other ≡ old other)
