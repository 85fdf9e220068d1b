-- What some facts depend on, where it is gone from each fact to all facts in its formula, or to some of them.
use Rattle.std.specs.Prelude.{ℕ, ◌≡◌, ◌≤◌, ◌↔◌, true, List, length, Contains}
use Rattle.fault_system.specs.Truth.{NumberSet, Has, count_true, member, occurs, occurs_event}
use Rattle.fault_system.specs.Systems.{System, IsFact}
use Rattle.fault_system.specs.declared.formula.FactInfo.{FactInfo}
use Rattle.backward_slice.specs.Slices.{DependsOn, most_slice_events, most_slice_facts}
use Rattle.backward_slice.specs.declared.parts.Reach.{Reach}

-- from each fact it is gone to each
abbrev pub all_ways : ℕ → NumberSet
all_ways from to = true

-- One fact depends on another by these ways: each set that has the one and, with each fact, all facts of its formula to which a
-- way leads from it, has the other.
abbrev pub DependsBy : System → (ℕ → NumberSet) → ℕ → ℕ → Type 0
DependsBy system ways from to =
    (facts : NumberSet)
    → ((n m : ℕ) (fact : FactInfo) → Has facts n → IsFact system n fact → occurs m fact.formula ≡ true → ways n m ≡ true → Has facts m)
    → Has facts from → Has facts to

-- one of these facts depends on a fact by these ways
abbrev pub IsReachedBy : System → (ℕ → NumberSet) → List ℕ → ℕ → Type 0
IsReachedBy system ways from n = (start : ℕ) × Contains from start × DependsBy system ways start n

-- an event occurs in the formula of such a fact
abbrev pub IsReachedEventBy : System → (ℕ → NumberSet) → List ℕ → ℕ → Type 0
IsReachedEventBy system ways from event =
    (n : ℕ) × (fact : FactInfo) × IsReachedBy system ways from n × IsFact system n fact × (occurs_event event fact.formula ≡ true)

-- exactly the facts on which one of these depends by these ways, and the events in their formulas
pub record IsReachBy (system : System) (ways : ℕ → NumberSet) (from : List ℕ) (reach : Reach) : Type 0 where
  pub facts_size : length reach.facts ≡ length system.facts
  pub events_size : length reach.events ≡ length system.events
  pub facts : (n : ℕ) → Has (member reach.facts) n ↔ IsReachedBy system ways from n
  pub events : (n : ℕ) → Has (member reach.events) n ↔ IsReachedEventBy system ways from n

-- one of these facts depends on a fact
abbrev pub IsReached : System → List ℕ → ℕ → Type 0
IsReached system from n = (start : ℕ) × Contains from start × DependsOn system start n

-- an event occurs in the formula of a fact on which one of these depends
abbrev pub IsReachedIn : System → List ℕ → ℕ → Type 0
IsReachedIn system from event =
    (n : ℕ) × (fact : FactInfo) × IsReached system from n × IsFact system n fact × (occurs_event event fact.formula ≡ true)

-- exactly the facts and events on which one of these facts depends
pub record IsReach (system : System) (from : List ℕ) (reach : Reach) : Type 0 where
  pub facts_size : length reach.facts ≡ length system.facts
  pub events_size : length reach.events ≡ length system.events
  pub facts : (n : ℕ) → Has (member reach.facts) n ↔ IsReached system from n
  pub events : (n : ℕ) → Has (member reach.events) n ↔ IsReachedIn system from n

-- the same, and these are no more than a slice may have
pub record IsSmallReach (system : System) (from : List ℕ) (reach : Reach) : Type 0 where
  pub is_reach : IsReach system from reach
  pub few_facts : count_true reach.facts ≤ most_slice_facts
  pub few_events : count_true reach.events ≤ most_slice_events
