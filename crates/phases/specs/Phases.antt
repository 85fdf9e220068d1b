-- Phases as data: which values pass, and with which status it ends where none does.
use Rattle.std.specs.Prelude.{◌≡◌, ◌⊎◌, Result, Ok, Err, MatchResult}
use Rattle.plain_values.specs.declared.refusal.Refusal.{Refusal}
use Rattle.plain_values.specs.Order.{IsClear, IsFirst}
use Rattle.phases.specs.declared.status.Status.{Status}
use Rattle.phases.specs.declared.status.Status.TheVariants.{Refused}

-- a phase: which values of the type A pass, and with which status it stops
pub data Phase : Type 0 → Type 1 where
  -- this value passes
  yields : {A : Type 0} → A → Phase A
  -- the values that are so pass, and it stops with the statuses that are so
  tells : {A : Type 0} → (A → Type 0) → (Status → Type 0) → Phase A
  -- a first phase, and then one that may depend on its value
  chains : {A B : Type 0} → Phase A → (A → Phase B) → Phase B

-- phases are written one below the other, in a `do` block
infixl 10 ◌>>=◌
abbrev pub ◌>>=◌ : {A B : Type 0} → Phase A → (A → Phase B) → Phase B
first >>= later = chains first later

-- A value passes: of two phases what passes the second with a value that passed the first.
abbrev pub Passed : {A : Type 0} → Phase A → A → Type 0
Passed (yields x) value = value ≡ x
Passed (tells Is Ends) value = Is value
Passed (chains {A = A} first later) value = (x : A) × Passed first x × Passed (later x) value

-- A phase stops: of two phases as the first does, or as the second does with a value that passed the first.
abbrev pub Stopped : {A : Type 0} → Phase A → Status → Type 0
Stopped (yields x) status = ⊥
Stopped (tells Is Ends) status = Ends status
Stopped (chains {A = A} first later) status = Stopped first status ⊎ ((x : A) × Passed first x × Stopped (later x) status)

-- A value passes this phase.
pub record Passes {A : Type 0} (phase : Phase A) (value : A) : Type 0 where
  pub passed : Passed phase value

-- This phase stops with this status.
pub record Stops {A : Type 0} (phase : Phase A) (status : Status) : Type 0 where
  pub stopped : Stopped phase status

-- ---- phases of one step

-- The status is a refusal that is so.
abbrev pub IsRefusal : (Refusal → Type 0) → Status → Type 0
IsRefusal Why status = (refusal : Refusal) × Why refusal × (status ≡ Refused refusal)

-- what is so passes, and it stops with a refusal for this reason
abbrev pub rejects : {A : Type 0} → (A → Type 0) → (Refusal → Type 0) → Phase A
rejects Is Why = tells Is (IsRefusal Why)

-- what is so passes, and it stops with the first refusal of the group
abbrev pub answers : {A : Type 0} → (A → Type 0) → (Refusal → Type 0) → Phase A
answers Is Stands = rejects Is (IsFirst Stands)

-- what is so passes, and it never stops
abbrev pub accepts : {A : Type 0} → (A → Type 0) → Phase A
accepts Is = tells Is (λ status. ⊥)

-- it passes where this is so, and it stops with the first refusal of the group
abbrev pub needs : Type 0 → (Refusal → Type 0) → Phase (Unit {0})
needs So Stands = answers (λ _. So) Stands

-- it passes where no refusal stands in the group, and else it stops with the first of them
abbrev pub tests : (Refusal → Type 0) → Phase (Unit {0})
tests Stands = needs (IsClear Stands) Stands

-- what is so passes, and where nothing is so, it stops with this status
abbrev pub finds : {A : Type 0} → (A → Type 0) → Status → Phase A
finds {A} Is status = tells Is (λ end. (end ≡ status) × ((value : A) → Is value → ⊥))

-- the value of a result passes, and it stops with the refusal of one
abbrev pub computes : {A : Type 0} → Result A Refusal → Phase A
computes result = rejects (λ value. result ≡ Ok value) (λ refusal. result ≡ Err refusal)

-- ---- one end at most

-- What is due of a phase: a value that passes, or a status with which it stops.
abbrev pub IsDue : {A : Type 0} → Phase A → Result A Status → Type 0
IsDue phase due = MatchResult due (Passes phase) (Stops phase)
