-- Beside specs/Phases.antt: what no clause of `run` reaches.
use Rattle.std.specs.Prelude.{◌≡◌, Result, MatchResult}
use Rattle.phases.specs.declared.status.Status.{Status}
use Rattle.phases.specs.Phases.{Phase, Passed, yields, tells, chains}

-- ---- one end at most

-- One value at most passes, none where it stops, and it stops with one status at most, but for what is the same here.
pub record IsDecidedStep {A : Type 0} (Same : Status → Status → Type 0) (Is : A → Type 0) (Ends : Status → Type 0) : Type 0 where
  pub one_value : (a b : A) → Is a → Is b → a ≡ b
  pub apart : (a : A) (status : Status) → Is a → Ends status → ⊥
  pub one_stop : (a b : Status) → Ends a → Ends b → Same a b

-- The same of a phase, if it is so of its parts: of a later one where a value passed the earlier ones.
abbrev pub IsDecided : {A : Type 0} → (Status → Status → Type 0) → Phase A → Type 0
IsDecided Same (yields x) = Unit {0}
IsDecided Same (tells Is Ends) = IsDecidedStep Same Is Ends
IsDecided Same (chains {A = A} first later) = IsDecided Same first × ((x : A) → Passed first x → IsDecided Same (later x))

-- Two ends of a phase are the same: the values are equal, or the statuses are the same.
abbrev pub IsSameEnd : {A : Type 0} → (Status → Status → Type 0) → Result A Status → Result A Status → Type 0
IsSameEnd Same a b = MatchResult a (λ x. MatchResult b (λ y. x ≡ y) (λ t. ⊥)) (λ s. MatchResult b (λ y. ⊥) (λ t. Same s t))
