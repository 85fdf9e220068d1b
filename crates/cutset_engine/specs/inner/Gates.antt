-- What a family covers, and how families are made for the parts of a formula.
use Rattle.std.specs.Prelude.{ℕ, ◌≡◌, Bool, ◌&&◌, ◌||◌, List, map, All, Option, Result, IfOk}
use Rattle.std.specs.List.{list_all, list_any}
use Rattle.std.specs.declared.alloc.AllocError.{AllocError}
use Rattle.fault_system.specs.Truth.{NumberSet, member, truth}
use Rattle.fault_system.specs.Listings.{IsWithinOrder}
use Rattle.fault_system.specs.declared.formula.Formula.{Formula}
use Rattle.cutset_engine.specs.declared.gates.Gate.{Gate}
use Rattle.cutset_engine.specs.declared.gates.Gate.TheVariants.{And, Or}
use Rattle.zdd_store.specs.inner.Family.{has, covers}
use Rattle.family_renaming.specs.inner.Renaming.{name_of}
use Rattle.zdd_store.specs.inner.Store.{Families, IsIn, family_of, Keeps}
use Rattle.zdd_store.specs.declared.id.Id.{Id}

-- the events of a set of variables: the variable of an event stands in a table at its place, or is the event's own number
abbrev pub events_of : List ℕ → List ℕ → NumberSet
events_of order set event = has set (name_of order event)

-- whether the family of each of some numbers covers a set
abbrev pub covers_each : Families → List Id → List ℕ → List Bool
covers_each store ids set = map (λ id. covers (family_of store id) set) ids

-- whether a gate of two parts is true, by its parts
abbrev pub of_both : Gate → Bool → Bool → Bool
of_both And a b = a && b
of_both Or a b = a || b

-- whether a gate is true, by all its parts
abbrev pub of_all : Gate → List Bool → Bool
of_all And parts = list_all (λ part. part) parts
of_all Or parts = list_any (λ part. part) parts

-- A number of the store whose family covers exactly the sets that pass a test. Where a greatest order is given, only sets
-- of at most so many numbers are asked.
pub record Stands (store : Families) (most : Option ℕ) (test : List ℕ → Bool) (id : Id) : Type 0 where
  pub found : IsIn store id
  pub right : (set : List ℕ) → IsWithinOrder most set → covers (family_of store id) set ≡ test set

-- numbers of the store that stand for some tests, one after another
pub record StandEach (store : Families) (most : Option ℕ) (tests : List ℕ → List Bool) (ids : List Id) : Type 0 where
  pub found : All (IsIn store) ids
  pub right : (set : List ℕ) → IsWithinOrder most set → covers_each store ids set ≡ tests set

-- each number keeps its family, and where memory sufficed the answer stands for the test
pub record Made (before after : Families) (most : Option ℕ) (test : List ℕ → Bool) (result : Result Id AllocError) : Type 0 where
  pub kept : Keeps before after
  pub made : IfOk result (Stands after most test)

-- whether a formula is true under the events of a set and the facts whose current family covers the set
abbrev pub is_true_under : List ℕ → Families → List Id → Formula → List ℕ → Bool
is_true_under order store now formula set = truth (events_of order set) (member (covers_each store now set)) formula
