-- The verdict on a requirement: met, vacuous, broken by a set, or broken by an exception that is stale.
use Rattle.std.specs.Prelude.{ℕ, ◌<◌, ◌≡◌, ◌⊎◌, List, [], ◌∷◌, ◌++◌, length}
use Rattle.std.specs.List.{AllByRecursion}
use Rattle.fault_system.specs.Truth.{Has, set_of}
use Rattle.fault_system.specs.Systems.{System}
use Rattle.fault_system.specs.CutSets.{IsEventSet, IsMinimalCutSet, IsSubset}
use Rattle.fault_system.specs.Listings.{IsBefore, IsWithinOrder}
use Rattle.requirement_names.specs.declared.named.SetSentence.{SetSentence}
use Rattle.requirement_names.specs.declared.named.SetSentence.TheVariants.{Order, Mixed, Without, Possible, Never}
use Rattle.requirement_verdicts.specs.declared.verdict.Verdict.{Verdict}
use Rattle.requirement_verdicts.specs.declared.verdict.Verdict.TheVariants.{Met, Vacuous, Broken, Stale}
use Rattle.requirement_verdicts.specs.Meanings.{ContainsNone, HoldsAnyway, IsFresh, IsKept, IsMet, MayHold}

-- A requirement is vacuous: its target never holds, and that was not required.
abbrev pub IsVacuous : System → ℕ → SetSentence → Type 0
IsVacuous system target (Order least except) = MayHold system target → ⊥
IsVacuous system target (Mixed group most) = MayHold system target → ⊥
IsVacuous system target (Without event) = MayHold system target → ⊥
IsVacuous system target Possible = MayHold system target → ⊥
IsVacuous system target Never = ⊥

-- what a sentence says a set may not be
abbrev pub IsForbidden : SetSentence → List ℕ → Type 0
IsForbidden (Order least except) set = (length set < least) × ContainsNone except set
IsForbidden (Mixed group most) set = IsSubset set group × IsWithinOrder most set
IsForbidden (Without event) set = Has (set_of set) event
IsForbidden Possible set = ⊥
IsForbidden Never set = Unit {0}

-- A set breaks each requirement if it has no event, and else one whose sentence forbids it.
abbrev pub Breaks : SetSentence → List ℕ → Type 0
Breaks sentence set = (set ≡ []) ⊎ IsForbidden sentence set

-- Of the minimal cut sets of which something is so this is the first in listing order.
pub record IsFirstMinimal (system : System) (target : ℕ) (Such : List ℕ → Type 0) (set : List ℕ) : Type 0 where
  pub minimal : IsMinimalCutSet system target set
  pub such : Such set
  pub first : (other : List ℕ) → IsMinimalCutSet system target other → Such other → (other ≡ set) ⊎ IsBefore set other

-- the first minimal cut set that breaks a requirement
abbrev pub IsBroken : System → ℕ → SetSentence → List ℕ → Type 0
IsBroken system target sentence set = IsFirstMinimal system target (Breaks sentence) set

-- of some exceptions this is the first that is stale
pub record IsFirstStale (system : System) (target least : ℕ) (except : List (List ℕ)) (set : List ℕ) : Type 0 where
  pub front : List (List ℕ)
  pub rest : List (List ℕ)
  pub whole : except ≡ front ++ set ∷ rest
  pub fresh : AllByRecursion (IsFresh system target least) front
  pub stale : IsFresh system target least set → ⊥

-- the same, of the exceptions of a sentence
abbrev pub HasStale : System → ℕ → SetSentence → List ℕ → Type 0
HasStale system target (Order least except) set = IsFirstStale system target least except set
HasStale system target (Mixed group most) set = ⊥
HasStale system target (Without event) set = ⊥
HasStale system target Possible set = ⊥
HasStale system target Never set = ⊥

-- No set breaks a requirement whose target may hold, and this is its first exception that is stale.
pub record IsStale (system : System) (target : ℕ) (sentence : SetSentence) (set : List ℕ) : Type 0 where
  pub may_hold : MayHold system target
  pub not_anyway : HoldsAnyway system target → ⊥
  pub kept : IsKept system target sentence
  pub has : HasStale system target sentence set

-- the verdict on a requirement
abbrev pub IsVerdict : System → ℕ → SetSentence → Verdict → Type 0
IsVerdict system target sentence Met = IsMet system target sentence
IsVerdict system target sentence Vacuous = IsVacuous system target sentence
IsVerdict system target sentence (Broken set) = IsBroken system target sentence set
IsVerdict system target sentence (Stale set) = IsStale system target sentence set
