-- What a sentence on the sets of events that make a target hold means.
use Rattle.std.specs.Prelude.{ℕ, ◌<◌, ◌≤◌, List, [], length, Contains}
use Rattle.std.specs.List.{AllByRecursion}
use Rattle.fault_system.specs.Truth.{Has, set_of}
use Rattle.fault_system.specs.Systems.{System}
use Rattle.fault_system.specs.CutSets.{IsCutSet, IsMinimalCutSet, IsSubset}
use Rattle.fault_system.specs.Listings.{IsWithinOrder}
use Rattle.requirement_names.specs.declared.named.SetSentence.{SetSentence}
use Rattle.requirement_names.specs.declared.named.SetSentence.TheVariants.{Order, Mixed, Without, Possible, Never}

-- some set of events makes the target hold
abbrev pub MayHold : System → ℕ → Type 0
MayHold system target = (set : List ℕ) × IsCutSet system target set

-- the target holds without any event
abbrev pub HoldsAnyway : System → ℕ → Type 0
HoldsAnyway system target = IsCutSet system target []

-- a set contains none of these sets
abbrev pub ContainsNone : List (List ℕ) → List ℕ → Type 0
ContainsNone parts set = (part : List ℕ) → Contains parts part → IsSubset part set → ⊥

-- What a sentence says of the sets of events that make a target hold: those that contain no exception have so many events at least; none
-- of at most so many events lies in the group; no minimal one has the event; nothing; there is none.
abbrev pub IsKept : System → ℕ → SetSentence → Type 0
IsKept system target (Order least except) = (set : List ℕ) → IsCutSet system target set → ContainsNone except set → least ≤ length set
IsKept system target (Mixed group most) = (set : List ℕ) → IsCutSet system target set → IsSubset set group → IsWithinOrder most set → ⊥
IsKept system target (Without event) = (set : List ℕ) → IsMinimalCutSet system target set → Has (set_of set) event → ⊥
IsKept system target Possible = Unit {0}
IsKept system target Never = MayHold system target → ⊥

-- an exception is not stale: it is a minimal cut set of fewer events than so many
abbrev pub IsFresh : System → ℕ → ℕ → List ℕ → Type 0
IsFresh system target least set = IsMinimalCutSet system target set × (length set < least)

-- no exception of a sentence is stale
abbrev pub AreFresh : System → ℕ → SetSentence → Type 0
AreFresh system target (Order least except) = AllByRecursion (IsFresh system target least) except
AreFresh system target (Mixed group most) = Unit {0}
AreFresh system target (Without event) = Unit {0}
AreFresh system target Possible = Unit {0}
AreFresh system target Never = Unit {0}

-- The target holds under some events and not under none, what the sentence says is so, and no exception is stale.
pub record IsMetBySome (system : System) (target : ℕ) (sentence : SetSentence) : Type 0 where
  pub may_hold : MayHold system target
  pub not_anyway : HoldsAnyway system target → ⊥
  pub kept : IsKept system target sentence
  pub fresh : AreFresh system target sentence

-- A requirement of a sentence on a target is met: that it never holds where it does not, and any other as above.
abbrev pub IsMet : System → ℕ → SetSentence → Type 0
IsMet system target (Order least except) = IsMetBySome system target (Order least except)
IsMet system target (Mixed group most) = IsMetBySome system target (Mixed group most)
IsMet system target (Without event) = IsMetBySome system target (Without event)
IsMet system target Possible = IsMetBySome system target Possible
IsMet system target Never = MayHold system target → ⊥
