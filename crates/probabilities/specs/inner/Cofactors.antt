-- The cofactors of a family: what it becomes once it is known of the first events which of them occur.
use Rattle.std.specs.Prelude.{ℕ, ◌+◌, ◌<◌, ◌≤◌, ◌≡◌, ◌⊎◌, ◌++◌, List, [], ◌∷◌, length, Contains, IsTrue, IfNone, Option, Some}
use Rattle.std.specs.List.{AllByRecursion}
use Rattle.zdd_store.specs.inner.Family.{Family, least_of, least_number, has, covers, IsAntichain}
use Rattle.zdd_store.specs.inner.Store.{Families, IsIn, family_of}
use Rattle.zdd_store.specs.declared.id.Id.{Id}
use Rattle.probabilities.specs.declared.rates.Bounds.{Bounds}

-- Of the events below `first`, these occurred and no others. Of what more occurs, the cofactor covers what the family covers together
-- with these.
pub record IsCofactor (family cofactor : Family) : Type 0 where
  pub first : ℕ
  pub occurred : List ℕ
  pub earlier : AllByRecursion (λ event. event < first) occurred
  pub beyond : first ≤ least_number cofactor
  pub covering : (set : List ℕ) → first ≤ least_of set → covers cofactor set ≡ covers family (occurred ++ set)

-- two families cover the same sets
abbrev pub CoverTheSame : Family → Family → Type 0
CoverTheSame family other = (set : List ℕ) → covers family set ≡ covers other set

-- no two of these do
unfoldable pub AreDifferent : List Family → Type 0
AreDifferent [] = Unit {0}
AreDifferent (family ∷ families) = AllByRecursion (λ other. CoverTheSame family other → ⊥) families × AreDifferent families

-- the family has more different cofactors than so many
pub record HasMoreCofactors (most : ℕ) (family : Family) : Type 0 where
  pub cofactors : List Family
  pub more : most < length cofactors
  pub each : AllByRecursion (IsCofactor family) cofactors
  pub different : AreDifferent cofactors

-- an event of the family stands behind so many
pub record HasEventFrom (count : ℕ) (family : Family) : Type 0 where
  pub set : List ℕ
  pub event : ℕ
  pub member : Contains family set
  pub stands : IsTrue (has set event)
  pub without : count ≤ event

-- why no bounds are answered: an event of the family has no rate, or it has more cofactors than may come up
abbrev pub IsGivenUp : ℕ → ℕ → Family → Type 0
IsGivenUp count most family = HasEventFrom count family ⊎ HasMoreCofactors most family

-- a number of the store stands for a cofactor, of which no set is within another one
pub record IsCofactorAt (root : Family) (store : Families) (id : Id) : Type 0 where
  pub found : IsIn store id
  pub apart : IsAntichain (family_of store id)
  pub cofactor : IsCofactor root (family_of store id)

-- so do those whose bounds are known
abbrev pub KnowsCofactors : Family → Families → (Id → Option Bounds) → Type 0
KnowsCofactors root store known = (id : Id) (bounds : Bounds) → known id ≡ Some bounds → IsCofactorAt root store id

-- still they do, and it was not given up without a reason
pub record IsTraced (count most : ℕ) (root : Family) (store : Families) (known : Id → Option Bounds) (found : Option Bounds) : Type 0 where
  pub still : KnowsCofactors root store known
  pub none : IfNone found (IsGivenUp count most root)
