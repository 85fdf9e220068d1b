-- Families as lists of sets: each set renamed, and one set after another put into a family.
use Rattle.std.specs.Prelude.{ℕ, ◌≤◌, ◌≡◌, min, Bool, ◌||◌, List, [], ◌∷◌, Result, IfOk}
use Rattle.std.specs.List.{list_any}
use Rattle.std.specs.declared.alloc.AllocError.{AllocError}
use Rattle.zdd_store.specs.inner.Family.{Family, least_of, least_number}
use Rattle.zdd_store.specs.inner.Store.{Families, IsIn, family_of, Keeps}
use Rattle.zdd_store.specs.declared.id.Id.{Id}
use Rattle.zdd_families.specs.inner.Unions.{with_number}
use Rattle.family_renaming.specs.inner.Renaming.{name_of}

-- a set with the names of another's numbers
abbrev pub with_names : List ℕ → List ℕ → List ℕ → List ℕ
with_names names [] set = set
with_names names (n ∷ ns) set = with_names names ns (with_number (name_of names n) set)

-- some sets, and those of a family, each renamed and with the numbers of one set more
abbrev pub ListsMore : List ℕ → List ℕ → Family → Family → Family → Type 0
ListsMore names set family before after =
    (test : List ℕ → Bool) → list_any test after ≡ (list_any test before || list_any (λ s. test (with_names names s set)) family)

-- a family with one set more
pub record HasOneMore (store : Families) (set : List ℕ) (family : Family) (id : Id) : Type 0 where
  pub found : IsIn store id
  pub least : min (least_of set) (least_number family) ≤ least_number (family_of store id)
  pub any : (test : List ℕ → Bool) → list_any test (family_of store id) ≡ (test set || list_any test family)

-- each number keeps its family, and where memory sufficed the answer has one set more
pub record OneMore (before after : Families) (set : List ℕ) (id : Id) (result : Result Id AllocError) : Type 0 where
  pub kept : Keeps before after
  pub answer : IfOk result (HasOneMore after set (family_of before id))

-- a number of the store whose family has exactly the sets of a list
pub record HasSets (store : Families) (sets : Family) (id : Id) : Type 0 where
  pub found : IsIn store id
  pub any : (test : List ℕ → Bool) → list_any test (family_of store id) ≡ list_any test sets
