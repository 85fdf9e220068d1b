-- Families whose numbers are renamed, each set then written as the rising list of its new numbers.
use Rattle.std.specs.Prelude.{ℕ, ◌<◌, ◌≡◌, ◌≢◌, Bool, List, [], ◌∷◌, length, slice_index_or, Contains, All, AllPairs}
use Rattle.std.specs.List.{list_any}
use Rattle.zdd_store.specs.inner.Family.{Family}
use Rattle.zdd_families.specs.inner.Unions.{with_number}

-- the name of a number: it stands in a table at the number's place; where the table has none it is the number itself
abbrev pub name_of : List ℕ → ℕ → ℕ
name_of names number = slice_index_or names number number

-- the rising list of the names of a set's numbers
abbrev pub renamed : List ℕ → List ℕ → List ℕ
renamed names [] = []
renamed names (n ∷ ns) = with_number (name_of names n) (renamed names ns)

-- two tables of which each undoes the other, for all numbers
pub record AreInverse (there back : List ℕ) : Type 0 where
  pub there_back : (n : ℕ) → name_of back (name_of there n) ≡ n
  pub back_there : (n : ℕ) → name_of there (name_of back n) ≡ n

-- the second family has exactly the renamed sets of the first: each test of sets finds one among them exactly where it does
abbrev pub AreRenamed : List ℕ → Family → Family → Type 0
AreRenamed names family other =
    (test : List ℕ → Bool) → list_any test other ≡ list_any (λ set. test (renamed names set)) family

-- the set is a set of the family, renamed
abbrev pub IsRenamedOf : List ℕ → Family → List ℕ → Type 0
IsRenamedOf names family set = (numbers : List ℕ) × Contains family numbers × (set ≡ renamed names numbers)

-- each number is its own name
abbrev pub NamesItself : List ℕ → Type 0
NamesItself names = (n : ℕ) → name_of names n ≡ n

-- the events below the length of a list stand in it, each once, and no other
pub record IsEventOrder (events : List ℕ) : Type 0 where
  pub ranged : All (λ event. event < length events) events
  pub once : AllPairs (λ a b. a ≢ b) events
  pub each : (event : ℕ) → event < length events → Contains events event

-- the event of each variable, and the variable of each event
pub record OrderTables : Type 0 where
  pub events : List ℕ
  pub variables : List ℕ

-- the order in which the variable of each event is its own number
abbrev pub own_order : OrderTables
own_order = record { events = []; variables = [] }
