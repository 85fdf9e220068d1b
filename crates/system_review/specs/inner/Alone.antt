-- Beside specs/Alone.antt: what no clause of `run` reaches.
use Rattle.std.specs.Prelude.{ℕ, ◌≡◌, ◌||◌, ◌↔◌, true, List, Contains}
use Rattle.std.specs.List.{list_any}
use Rattle.fault_system.specs.Truth.{NumberSet, truth}
use Rattle.fault_system.specs.Systems.{System, IsFact, Holds}
use Rattle.fault_system.specs.declared.formula.FactInfo.{FactInfo}
use Rattle.system_review.specs.inner.Possible.{IsPossible}
use Rattle.system_review.specs.Alone.{made_by_event, made_by_fact}

-- A system has, beside what another one says of each fact, that some events and some facts make it hold.
abbrev pub Joins : System → System → (ℕ → List ℕ) → (ℕ → List ℕ) → Type 0
Joins system joined events_of facts_of =
    (n : ℕ) (whole : FactInfo) → IsFact joined n whole
    → (fact : FactInfo) × IsFact system n fact × ((events facts : NumberSet)
    → truth events facts whole.formula ≡ (truth events facts fact.formula || (list_any events (events_of n) || list_any facts (facts_of n))))

-- Each of these events makes its fact hold by itself in the system, and so does each of these facts that may come about, by way of
-- some facts.
pub record IsSaid (system : System) (events_of facts_of : ℕ → List ℕ) : Type 0 where
  pub events : (n event : ℕ) → Contains (events_of n) event → made_by_event system n event ≡ true
  pub facts : (n cause : ℕ) → Contains (facts_of n) cause → IsPossible system cause → (among : List ℕ) × (made_by_fact system among n cause ≡ true)

-- the same facts hold in two systems under each set of events
abbrev pub HoldTheSame : System → System → Type 0
HoldTheSame a b = (events : NumberSet) (n : ℕ) → Holds a events n ↔ Holds b events n
