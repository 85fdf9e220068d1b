-- How a family is split at a variable, and at its least event.
use Rattle.std.specs.Prelude.{ℕ, ◌<◌, ◌≤◌, ◌≡◌, not, ◌==◌, if◌then◌else◌, List, [], ◌∷◌, map, filter, Option, Some, Result, IfOk}
use Rattle.std.specs.HashMap.{get}
use Rattle.std.specs.declared.alloc.AllocError.{AllocError}
use Rattle.zdd_store.specs.inner.Family.{Family, branch, least_number, has}
use Rattle.zdd_store.specs.inner.Store.{Families, IsIn, family_of, Keeps}
use Rattle.zdd_store.specs.declared.id.Id.{Id}
use Rattle.family_renaming.specs.inner.Renaming.{renamed, AreRenamed}
use Rattle.family_renaming.specs.declared.parting.Parts.{Parts}
use Rattle.family_renaming.specs.declared.parting.Place.{Place}
use Rattle.family_renaming.specs.declared.from_top.EventParts.{EventParts}
use Rattle.family_renaming.specs.declared.from_top.Known.{Known}
use Rattle.family_renaming.specs.contracts.parting.PlacePartialEq.TheImpl.{eq-value as place_eq}
use Rattle.zdd_store.specs.contracts.id.IdPartialEq.TheImpl.{eq-value as id_eq}

-- the sets of a family that do not have a number
unfoldable pub sets_lacking : ℕ → Family → Family
sets_lacking number family = filter (λ set. not (has set number)) family

-- a set from which a number is taken away
unfoldable pub set_without : ℕ → List ℕ → List ℕ
set_without number [] = []
set_without number (n ∷ ns) = if n == number then ns else n ∷ set_without number ns

-- the sets of a family that have a number, from which it is taken away
unfoldable pub sets_having : ℕ → Family → Family
sets_having number family = map (set_without number) (filter (λ set. has set number) family)

-- a family split at a number: the sets without it, and those with it, from which it is taken away
pub record IsParted (store : Families) (number : ℕ) (family : Family) (parts : Parts) : Type 0 where
  pub lo_in : IsIn store parts.lo
  pub hi_in : IsIn store parts.hi
  pub lo : family_of store parts.lo ≡ sets_lacking number family
  pub hi : family_of store parts.hi ≡ sets_having number family
  pub lo_least : least_number family ≤ least_number (family_of store parts.lo)
  pub hi_least : least_number family ≤ least_number (family_of store parts.hi)

-- each number keeps its family, and where memory sufficed the parts are right
pub record Parted (before after : Families) (number : ℕ) (id : Id) (result : Result Parts AllocError) : Type 0 where
  pub kept : Keeps before after
  pub parts : IfOk result (IsParted after number (family_of before id))

-- the parts that are known are right
abbrev pub KnowsParts : Families → (Place → Option Parts) → Type 0
KnowsParts store known =
    (place : Place) (parts : Parts) → known place ≡ Some parts
    → IsIn store place.family × IsParted store place.number (family_of store place.family) parts

-- the least event of the sets of a family, by the names of their numbers; without any it is 2 ^ 32
abbrev pub least_event : List ℕ → Family → ℕ
least_event names family = least_number (map (renamed names) family)

-- the least events that are known are right
abbrev pub KnowsLeast : List ℕ → Families → (Id → Option ℕ) → Type 0
KnowsLeast names store known =
    (id : Id) (event : ℕ) → known id ≡ Some event → IsIn store id × (event ≡ least_event names (family_of store id))

-- A family split at its least event: the other events of both parts are greater, and with the parts renamed, the branch
-- of the event is the family renamed.
pub record IsAtEvent (store : Families) (names : List ℕ) (family : Family) (parts : EventParts) : Type 0 where
  pub lo_in : IsIn store parts.lo
  pub hi_in : IsIn store parts.hi
  pub least : least_event names family ≡ parts.event
  pub lo_greater : parts.event < least_event names (family_of store parts.lo)
  pub hi_greater : parts.event < least_event names (family_of store parts.hi)
  pub renamed : (lo hi : Family) → AreRenamed names (family_of store parts.lo) lo → AreRenamed names (family_of store parts.hi) hi
      → AreRenamed names family (branch parts.event lo hi)

-- a number of the store whose family is another one renamed, and has no event below its least
pub record IsOrdered (store : Families) (names : List ℕ) (family : Family) (answer : Id) : Type 0 where
  pub found : IsIn store answer
  pub least : least_event names family ≤ least_number (family_of store answer)
  pub renamed : AreRenamed names family (family_of store answer)

-- the renamed families that are known are right
abbrev pub KnowsOrdered : List ℕ → Families → (Id → Option Id) → Type 0
KnowsOrdered names store known =
    (id answer : Id) → known id ≡ Some answer → IsIn store id × IsOrdered store names (family_of store id) answer

-- all that is known is right
pub record Knows (names : List ℕ) (store : Families) (known : Known) : Type 0 where
  pub parts : KnowsParts store (get place_eq.it known.parts)
  pub least : KnowsLeast names store (get id_eq.it known.least)
  pub ordered : KnowsOrdered names store (get id_eq.it known.ordered)

-- each number keeps its family, what is known is right, and where memory sufficed the family is split at its least event
pub record AtEvent (before after : Families) (names : List ℕ) (known : Known) (id : Id) (result : Result EventParts AllocError) : Type 0 where
  pub kept : Keeps before after
  pub knows : Knows names after known
  pub parts : IfOk result (IsAtEvent after names (family_of before id))

-- each number keeps its family, what is known is right, and where memory sufficed the answer is the family renamed
pub record Ordered (before after : Families) (names : List ℕ) (known : Known) (id : Id) (result : Result Id AllocError) : Type 0 where
  pub kept : Keeps before after
  pub knows : Knows names after known
  pub answer : IfOk result (IsOrdered after names (family_of before id))
