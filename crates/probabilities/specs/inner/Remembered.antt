-- The bounds of the families of a store, as they are remembered.
use Rattle.std.specs.Prelude.{ℕ, ◌≡◌, List, Option, Some, Result, IfOk, IfSome}
use Rattle.std.specs.declared.alloc.AllocError.{AllocError}
use Rattle.zdd_store.specs.inner.Family.{Family}
use Rattle.zdd_store.specs.inner.Store.{Families, IsIn, family_of, Keeps}
use Rattle.zdd_store.specs.declared.id.Id.{Id}
use Rattle.probabilities.specs.declared.rates.Bounds.{Bounds}
use Rattle.probabilities.specs.declared.rates.Rate.{Rate}
use Rattle.probabilities.specs.inner.Decided.{BoundAll}
use Rattle.probabilities.specs.inner.Widths.{IsNarrowed}
use Rattle.probabilities.specs.inner.Sharp.{IsSharp}

-- the two decimals bound the probability of a family, are near where the rates are, and near the probabilities at the ends of these
pub record IsBounded (whole : ℕ) (list : List Rate) (family : Family) (bounds : Bounds) : Type 0 where
  pub all : BoundAll whole list family bounds
  pub narrow : IsNarrowed whole list family bounds
  pub sharp : IsSharp whole list family bounds

-- they bound that of the family of a number
pub record IsBoundedAt (whole : ℕ) (list : List Rate) (store : Families) (id : Id) (bounds : Bounds) : Type 0 where
  pub found : IsIn store id
  pub right : IsBounded whole list (family_of store id) bounds

-- the bounds that are known are right
abbrev pub KnowsBounds : ℕ → List Rate → Families → (Id → Option Bounds) → Type 0
KnowsBounds whole list store known = (id : Id) (bounds : Bounds) → known id ≡ Some bounds → IsBoundedAt whole list store id bounds

-- each number keeps its family, and where memory sufficed and it was not given up the bounds are right
pub record Bounded (whole : ℕ) (list : List Rate) (before after : Families) (id : Id) (result : Result (Option Bounds) AllocError) : Type 0 where
  pub kept : Keeps before after
  pub bounds : IfOk result (λ found. IfSome found (IsBounded whole list (family_of before id)))
