-- What the steps of the marking add, and what is marked between them.
use Rattle.std.specs.Prelude.{ℕ, ◌+◌, ◌<◌, ◌≡◌, ◌↔◌, Bool, true, false, ◌&&◌, ◌||◌, not, List, length, Contains}
use Rattle.fault_system.specs.Truth.{NumberSet, Has, member, set_of, count_true, occurs, occurs_event}
use Rattle.fault_system.specs.Systems.{System, IsFact}
use Rattle.plain_values.specs.Rising.{RisesWithin}
use Rattle.fault_system.specs.declared.formula.FactInfo.{FactInfo}
use Rattle.backward_slice.specs.inner.Reach.{IsReachedBy, IsReachedEventBy}
use Rattle.backward_slice.specs.declared.marking.Marking.{Marking}

-- whether a fact is marked and does not wait
abbrev pub is_done : Marking → NumberSet
is_done marking n = member marking.facts n && not (set_of marking.waiting.items n)

-- The facts and events of two sets, where they are in range, are marked beside those that were. What is new waits; each
-- marked fact that waits makes one more mark.
pub record Adds (facts events : NumberSet) (old new : Marking) : Type 0 where
  pub facts_size : length new.facts ≡ length old.facts
  pub events_size : length new.events ≡ length old.events
  pub facts_are : (n : ℕ) → n < length old.facts → member new.facts n ≡ member old.facts n || facts n
  pub events_are : (n : ℕ) → n < length old.events → member new.events n ≡ member old.events n || events n
  pub done : (n : ℕ) → is_done new n ≡ is_done old n
  pub work : length new.waiting.items + count_true old.facts ≡ length old.waiting.items + count_true new.facts

-- What is marked is reached from some facts, which are marked, and so is all to which it is gone from a marked fact that does not
-- wait, and each event of its formula.
pub record IsMarking (system : System) (ways : ℕ → NumberSet) (from : List ℕ) (facts events : List Bool) (waiting : List ℕ) : Type 0 where
  pub facts_size : length facts ≡ length system.facts
  pub events_size : length events ≡ length system.events
  pub starts : (n : ℕ) → Contains from n → Has (member facts) n
  pub facts_right : (n : ℕ) → Has (member facts) n → IsReachedBy system ways from n
  pub events_right : (n : ℕ) → Has (member events) n → IsReachedEventBy system ways from n
  pub facts_done : (n m : ℕ) (fact : FactInfo) → Has (member facts) n → set_of waiting n ≡ false → IsFact system n fact
      → m < length system.facts → occurs m fact.formula ≡ true → ways n m ≡ true → Has (member facts) m
  pub events_done : (n m : ℕ) (fact : FactInfo) → Has (member facts) n → set_of waiting n ≡ false → IsFact system n fact
      → m < length system.events → occurs_event m fact.formula ≡ true → Has (member events) m

-- the list has exactly the numbers of a set, rising
pub record IsNumbers (set : List Bool) (list : List ℕ) : Type 0 where
  pub exact : (n : ℕ) → Contains list n ↔ Has (member set) n
  pub rise : RisesWithin 0 (length set) list
