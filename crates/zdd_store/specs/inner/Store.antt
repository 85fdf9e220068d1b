-- What the numbers of a store stand for.
use Rattle.std.specs.Prelude.{ℕ, ◌<◌, ◌≤◌, ◌≡◌, List, [], ◌∷◌, length, slice_index_or}
use Rattle.std.specs.List.{AllByRecursion}
use Rattle.zdd_store.specs.inner.Family.{Family, branch, least_number, IsRising, IsInOrder, HaveSameSets}
use Rattle.zdd_store.specs.declared.id.Id.{Id}
use Rattle.zdd_store.specs.declared.id.Node.{Node}

-- A store is seen as the families of its numbers: at each position stands the family of the number with that position.
abbrev pub Families : Type 0
Families = List Family

-- the family at a position
unfoldable pub family_at : Families → ℕ → Family
family_at store position = slice_index_or store position []

-- the number is in the store
abbrev pub IsIn : Families → Id → Type 0
IsIn store id = id.position < length store

-- the family that a number stands for
abbrev pub family_of : Families → Id → Family
family_of store id = family_at store id.position

-- the families of a store without nodes: EMPTY, position 0, stands for no set, and UNIT, position 1, for the empty set alone
abbrev pub no_nodes : Families
no_nodes = [] ∷ ([] ∷ []) ∷ []

-- each number of the store before is in the store after, and its family is the same
pub record Keeps (before after : Families) : Type 0 where
  pub more : length before ≤ length after
  pub same : (position : ℕ) → position < length before → family_at after position ≡ family_at before position

-- a node may stand in the store: its children are in it and have greater variables, and `hi` is not EMPTY
pub record Fits (store : Families) (node : Node) : Type 0 where
  pub lo_in : IsIn store node.lo
  pub hi_in : IsIn store node.hi
  pub lo_greater : node.var < least_number (family_of store node.lo)
  pub hi_greater : node.var < least_number (family_of store node.hi)
  pub hi_some : 0 < node.hi.position

-- the family of a node: the sets of `lo` and, with the variable added, those of `hi`
abbrev pub family_with : Families → Node → Family
family_with store node = branch node.var (family_of store node.lo) (family_of store node.hi)

-- equal families have equal numbers: where two numbers stand for the same sets, they are one
abbrev pub IsCanonical : Families → Type 0
IsCanonical store =
    (a b : ℕ) → a < length store → b < length store → HaveSameSets (family_at store a) (family_at store b) → a ≡ b

-- What holds of the families of every store: EMPTY stands for no set and UNIT for the empty set alone, the numbers of each
-- set rise, the sets of each family are in order, and equal families have equal numbers.
pub record IsSound (store : Families) : Type 0 where
  pub some : 1 < length store
  pub empty : family_at store 0 ≡ []
  pub unit : family_at store 1 ≡ [] ∷ []
  pub rising : (position : ℕ) → position < length store → AllByRecursion IsRising (family_at store position)
  pub ordered : (position : ℕ) → position < length store → IsInOrder (family_at store position)
  pub canonical : IsCanonical store
