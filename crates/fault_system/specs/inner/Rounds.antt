-- Beside specs/Rounds.antt: what no clause of `run` reaches.
use Rattle.std.specs.Prelude.{ℕ, zero, suc, ◌≤◌, ◌≡◌, ◌⊎◌, ◌&&◌, true, false, List, length, nat_lt, nat_le}
use Rattle.fault_system.specs.Truth.{NumberSet, member, occurs, occurs_event, set_of, truth}
use Rattle.fault_system.specs.Systems.{System, IsFact, round}
use Rattle.fault_system.specs.declared.formula.Formula.{Formula}
use Rattle.fault_system.specs.declared.formula.FactInfo.{FactInfo}
use Rattle.fault_system.specs.Rounds.{time_of, only}

-- the facts that have a time, at most so much
abbrev pub within : (ℕ → ℕ) → ℕ → NumberSet
within times most n = nat_lt 0 (times n) && nat_le (times n) most

-- the facts that have a time
abbrev pub ever : (ℕ → ℕ) → NumberSet
ever times n = nat_lt 0 (times n)

-- A time fits a formula: the formula is true over the facts of earlier times, and not over those of still earlier ones;
-- with no time it is not true over all facts that have one.
abbrev pub FitsTime : NumberSet → (ℕ → ℕ) → Formula → ℕ → Type 0
FitsTime events times formula zero = truth events (ever times) formula ≡ false
FitsTime events times formula (suc zero) = truth events (within times 0) formula ≡ true
FitsTime events times formula (suc (suc r)) =
    (truth events (within times (suc r)) formula ≡ true) × (truth events (within times r) formula ≡ false)

-- the time of a fact, where there is one of this number, fits its formula
abbrev pub FitsFact : System → NumberSet → (ℕ → ℕ) → ℕ → Type 0
FitsFact system events times n =
    (fact : FactInfo) → IsFact system n fact → FitsTime events times fact.formula (times n)

-- each time of a table fits the formula of its fact
pub record IsTable (system : System) (events : NumberSet) (times : List ℕ) : Type 0 where
  pub count : length times ≡ length system.facts
  pub each : (n : ℕ) → FitsFact system events (time_of times) n

-- a table of the first so many rounds: after each of them those facts hold that have a time up to it
pub record IsTableTo (system : System) (events : NumberSet) (times : List ℕ) (most : ℕ) : Type 0 where
  pub count : length times ≡ length system.facts
  pub few : (n : ℕ) → time_of times n ≤ most
  pub same : (r n : ℕ) → r ≤ most → member (round system events r) n ≡ within (time_of times) r n

-- a formula in which the event does not occur, and each fact that occurs has its old time
pub record IsUntouched (event : ℕ) (old new : ℕ → ℕ) (formula : Formula) : Type 0 where
  pub no_event : occurs_event event formula ≡ false
  pub same : (n : ℕ) → occurs n formula ≡ true → new n ≡ old n

-- of each fact the new time fits under the event alone, or its formula is untouched and it has its old time
pub record IsChanged (system : System) (event : ℕ) (old new : List ℕ) : Type 0 where
  pub count : length new ≡ length system.facts
  pub each : (n : ℕ) (fact : FactInfo) → IsFact system n fact
      → FitsTime (only event) (time_of new) fact.formula (time_of new n)
      ⊎ (IsUntouched event (time_of old) (time_of new) fact.formula × (time_of new n ≡ time_of old n))

-- New times that differ from the old ones at some facts alone, and that fit wherever a change or the event may be felt: at
-- the facts that changed, at those in whose formula one of them occurs, and at those in whose formula the event does.
pub record IsChecked (system : System) (event : ℕ) (old new changes : List ℕ) : Type 0 where
  pub count : length new ≡ length system.facts
  pub others : (n : ℕ) → set_of changes n ≡ false → time_of new n ≡ time_of old n
  pub changed : (n : ℕ) → set_of changes n ≡ true → FitsFact system (only event) (time_of new) n
  pub users : (n g : ℕ) (fact : FactInfo) → IsFact system n fact → set_of changes g ≡ true
      → occurs g fact.formula ≡ true → FitsFact system (only event) (time_of new) n
  pub event_users : (n : ℕ) (fact : FactInfo) → IsFact system n fact
      → occurs_event event fact.formula ≡ true → FitsFact system (only event) (time_of new) n
