-- What an operation answers, and how a family is split at a variable.
use Rattle.std.specs.Prelude.{ℕ, ◌<◌, ◌≤◌, ◌≡◌, min, Bool, true, ◌&&◌, ◌||◌, List, Result, IfOk}
use Rattle.std.specs.declared.alloc.AllocError.{AllocError}
use Rattle.zdd_store.specs.inner.Family.{Family, branch, least_number, covers, has, IsAntichain}
use Rattle.zdd_store.specs.inner.Store.{Families, IsIn, family_of, Keeps}
use Rattle.zdd_store.specs.declared.id.Id.{Id}
use Rattle.zdd_families.specs.declared.split.Parts.{Parts}
use Rattle.zdd_families.specs.declared.halving.Halves.{Halves}

-- a number of the store whose family is right, and has no number below `low`
pub record IsFound (store : Families) (low : ℕ) (IsRight : Family → Type 0) (id : Id) : Type 0 where
  pub found : IsIn store id
  pub least : low ≤ least_number (family_of store id)
  pub right : IsRight (family_of store id)

-- each number keeps its family, and where memory sufficed the answer is right
pub record Answered (before after : Families) (low : ℕ) (IsRight : Family → Type 0) (result : Result Id AllocError) : Type 0 where
  pub kept : Keeps before after
  pub answer : IfOk result (IsFound after low IsRight)

-- a family is split at a variable: the sets without it, and those with it, from which it is taken away; where no set of the
-- family is within another, so it is with the two
pub record IsSplit (store : Families) (id : Id) (var : ℕ) (parts : Parts) : Type 0 where
  pub lo_in : IsIn store parts.lo
  pub hi_in : IsIn store parts.hi
  pub lo_greater : var < least_number (family_of store parts.lo)
  pub hi_greater : var < least_number (family_of store parts.hi)
  pub family : family_of store id ≡ branch var (family_of store parts.lo) (family_of store parts.hi)
  pub lo_apart : IsAntichain (family_of store id) → IsAntichain (family_of store parts.lo)
  pub hi_apart : IsAntichain (family_of store id) → IsAntichain (family_of store parts.hi)

-- the sets that one of two families covers
abbrev pub either : Family → Family → List ℕ → Bool
either a b set = covers a set || covers b set

-- the sets that both of two families cover
abbrev pub both : Family → Family → List ℕ → Bool
both a b set = covers a set && covers b set

-- the sets that low covers, and those with the variable that high covers
abbrev pub joined : ℕ → Family → Family → List ℕ → Bool
joined var low high set = covers low set || (has set var && covers high set)

-- the parts of a family whose sets are minimal, split at a variable
pub record CanCross (store : Families) (var : ℕ) (parts : Parts) : Type 0 where
  pub lo_in : IsIn store parts.lo
  pub hi_in : IsIn store parts.hi
  pub lo_greater : var < least_number (family_of store parts.lo)
  pub hi_greater : var < least_number (family_of store parts.hi)
  pub lo_apart : IsAntichain (family_of store parts.lo)
  pub hi_apart : IsAntichain (family_of store parts.hi)

-- the sets that both of two families cover, where at least one of the two does it by a set with the variable
abbrev pub across : Families → Parts → Parts → List ℕ → Bool
across store first second set =
    (covers (family_of store first.hi) set && either (family_of store second.lo) (family_of store second.hi) set)
    || both (family_of store first.lo) (family_of store second.hi) set

-- one of two families that covers what both cover
pub record IsOperand (store : Families) (a b id : Id) : Type 0 where
  pub found : IsIn store id
  pub apart : IsAntichain (family_of store id)
  pub least : min (least_number (family_of store a)) (least_number (family_of store b)) ≤ least_number (family_of store id)
  pub same : (set : List ℕ) → covers (family_of store id) set ≡ both (family_of store a) (family_of store b) set

-- the sets of a family that contain a set of another one, and its other sets
pub record IsHalved (store : Families) (a b : Family) (halves : Halves) : Type 0 where
  pub inner_in : IsIn store halves.inner
  pub outer_in : IsIn store halves.outer
  pub inner_least : least_number a ≤ least_number (family_of store halves.inner)
  pub outer_least : least_number a ≤ least_number (family_of store halves.outer)
  pub inner_apart : IsAntichain (family_of store halves.inner)
  pub outer_apart : IsAntichain (family_of store halves.outer)
  pub inner : (set : List ℕ) → covers (family_of store halves.inner) set ≡ true → covers b set ≡ true
  pub whole : (set : List ℕ) → covers a set ≡ either (family_of store halves.inner) (family_of store halves.outer) set

-- two families of minimal sets, as halves of a third
pub record AreHalves (store : Families) (halves : Halves) : Type 0 where
  pub inner_in : IsIn store halves.inner
  pub outer_in : IsIn store halves.outer
  pub inner_apart : IsAntichain (family_of store halves.inner)
  pub outer_apart : IsAntichain (family_of store halves.outer)

-- the least number of two halves
abbrev pub least_of_halves : Families → Halves → ℕ
least_of_halves store halves = min (least_number (family_of store halves.inner)) (least_number (family_of store halves.outer))

-- the sets that an inner half covers, and those that both outer halves cover
abbrev pub of_halves : Families → Halves → Halves → List ℕ → Bool
of_halves store first second set =
    either (family_of store first.inner) (family_of store second.inner) set || both (family_of store first.outer) (family_of store second.outer) set

-- any family is right
abbrev pub AnyFamily : Family → Type 0
AnyFamily family = Unit {0}
