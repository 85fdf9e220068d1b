-- What the sets that a sentence forbids are to the minimal cut sets of a target.
use Rattle.std.specs.Prelude.{ℕ, List}
use Rattle.std.specs.List.{AllByRecursion}
use Rattle.fault_system.specs.Systems.{System}
use Rattle.fault_system.specs.CutSets.{IsEventSet, IsMinimalCutSet}
use Rattle.requirement_names.specs.declared.named.SetSentence.{SetSentence}
use Rattle.requirement_names.specs.declared.named.SetSentence.TheVariants.{Order, Mixed, Without, Possible, Never}
use Rattle.requirement_verdicts.specs.Verdicts.{IsFirstMinimal, IsForbidden}

-- It is so of no minimal cut set.
abbrev pub HasNoMinimal : System → ℕ → (List ℕ → Type 0) → Type 0
HasNoMinimal system target Such = (set : List ℕ) → IsMinimalCutSet system target set → Such set → ⊥

-- the first minimal cut set that a sentence forbids
abbrev pub IsFirstForbidden : System → ℕ → SetSentence → List ℕ → Type 0
IsFirstForbidden system target sentence set = IsFirstMinimal system target (IsForbidden sentence) set

-- a sentence forbids no minimal cut set
abbrev pub ForbidsNone : System → ℕ → SetSentence → Type 0
ForbidsNone system target sentence = HasNoMinimal system target (IsForbidden sentence)

-- the exceptions of a sentence are rising lists of events of the system
abbrev pub HasEventSets : System → SetSentence → Type 0
HasEventSets system (Order least except) = AllByRecursion (IsEventSet system) except
HasEventSets system (Mixed group most) = Unit {0}
HasEventSets system (Without event) = Unit {0}
HasEventSets system Possible = Unit {0}
HasEventSets system Never = Unit {0}
