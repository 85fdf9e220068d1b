-- The slice of a target: all facts and events that it depends on.
use Rattle.std.specs.Prelude.{ℕ, ◌<◌, ◌≤◌, ◌≡◌, ◌⊎◌, ◌↔◌, true, length, Contains}
use Rattle.plain_values.specs.declared.refusal.Refusal.{Refusal}
use Rattle.plain_values.specs.declared.refusal.Code.TheVariants.{SliceTooLarge, TooManySliceEvents}
use Rattle.plain_values.specs.Refusal.{of_words}
use Rattle.fault_system.specs.Truth.{NumberSet, Has, occurs, occurs_event}
use Rattle.fault_system.specs.Systems.{System, IsFact}
use Rattle.plain_values.specs.Rising.{RisesWithin}
use Rattle.fault_system.specs.declared.formula.FactInfo.{FactInfo}
use Rattle.backward_slice.specs.declared.parts.Slice.{Slice}

-- with each fact, the set has all facts that occur in its formula
abbrev pub HasItsCauses : System → NumberSet → Type 0
HasItsCauses system facts =
    (n m : ℕ) (fact : FactInfo) → Has facts n → IsFact system n fact → occurs m fact.formula ≡ true → Has facts m

-- One fact depends on another: it is the same, or it can be gone to the other by "occurs in the formula of". Each set
-- that has the one and, with each fact, all facts that occur in its formula, has the other.
abbrev pub DependsOn : System → ℕ → ℕ → Type 0
DependsOn system from to = (facts : NumberSet) → HasItsCauses system facts → Has facts from → Has facts to

-- a fact depends on an event if the event occurs in the formula of a fact on which it depends
abbrev pub DependsOnEvent : System → ℕ → ℕ → Type 0
DependsOnEvent system from event =
    (n : ℕ) × (fact : FactInfo) × DependsOn system from n × IsFact system n fact × (occurs_event event fact.formula ≡ true)

-- the slice of a target has exactly the facts and the events on which the target depends, each in rising order
pub record IsSlice (system : System) (target : ℕ) (slice : Slice) : Type 0 where
  pub target_is : slice.target ≡ target
  pub facts : (n : ℕ) → Contains slice.facts n ↔ DependsOn system target n
  pub events : (n : ℕ) → Contains slice.events n ↔ DependsOnEvent system target n
  pub facts_rise : RisesWithin 0 (length system.facts) slice.facts
  pub events_rise : RisesWithin 0 (length system.events) slice.events

-- the greatest number of facts of a slice
abbrev pub most_slice_facts : ℕ
most_slice_facts = 32768

-- the greatest number of events of a slice
abbrev pub most_slice_events : ℕ
most_slice_events = 1024

-- a slice that is served: it has not too many facts and not too many events
pub record IsServed (system : System) (target : ℕ) (slice : Slice) : Type 0 where
  pub is_slice : IsSlice system target slice
  pub few_facts : length slice.facts ≤ most_slice_facts
  pub few_events : length slice.events ≤ most_slice_events

-- M10, M11: the slice has too many facts, or else too many events, and this is the refusal
abbrev pub IsTooLarge : Slice → Refusal → Type 0
IsTooLarge slice refusal =
    ((most_slice_facts < length slice.facts) × (refusal ≡ of_words SliceTooLarge))
    ⊎ ((length slice.facts ≤ most_slice_facts) × (most_slice_events < length slice.events) × (refusal ≡ of_words TooManySliceEvents))

-- the slice of the target is too large, and this is the refusal
abbrev pub HasLargeSlice : System → ℕ → Refusal → Type 0
HasLargeSlice system target refusal = (slice : Slice) × IsSlice system target slice × IsTooLarge slice refusal
