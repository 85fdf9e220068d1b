-- What the functions that find rows owe each other: tables that change, tests, and rows of tables.
use Rattle.std.specs.Prelude.{ℕ, ◌≤◌, ◌≡◌, ◌<◌, ◌==◌, ◌&&◌, Bool, true, false, if◌then◌else◌, List, [], ◌∷◌, length, map, slice_index_or, slice_set, nat_lt}
use Rattle.std.specs.List.{flat_map}
use Rattle.plain_values.specs.Rising.{RisesWithin}
use Rattle.fault_system.specs.Truth.{NumberSet, Has, member, set_of}
use Rattle.fault_system.specs.Truth.{occurs, occurs_event}
use Rattle.fault_system.specs.Systems.{System, IsFact}
use Rattle.fault_system.specs.Rounds.{IsRoundOf, no_event, only, time_of}
use Rattle.fault_system.specs.inner.Rounds.{FitsFact, IsTable}
use Rattle.fault_system.specs.declared.formula.FactInfo.{FactInfo}
use Rattle.fmea_rows.specs.Rows.{event_rows}
use Rattle.fmea_rows.specs.declared.row.Row.{Row}
use Rattle.fmea_rows.specs.declared.change.Change.{Change}
use Rattle.backward_slice.specs.inner.Reach.{IsReach}
use Rattle.fact_users.specs.inner.Users.{users_at}
use Rattle.fact_users.specs.declared.users.Users.{Users}
use Rattle.fmea_rows.specs.declared.table.Known.{Known}
use Rattle.fmea_rows.specs.declared.truth.Run.{Run}

-- ---- changes of a table

-- the facts that change
abbrev pub facts_of : List Change → List ℕ
facts_of changes = map (λ change. change.fact) changes

-- a table with changes, one after the other
abbrev pub changed : List ℕ → List Change → List ℕ
changed times [] = times
changed times (change ∷ changes) = changed (slice_set times change.fact change.time) changes

-- A table of no event with changes, each of another fact, is that of an event alone at all effects.
pub record IsRight (system : System) (effects : List ℕ) (event : ℕ) (base : List ℕ) (changes : List Change) : Type 0 where
  pub rise : RisesWithin 0 (length system.facts) (facts_of changes)
  pub rounds : (n : ℕ) → Has (set_of effects) n → IsRoundOf system (only event) n (time_of (changed base changes) n)

-- the facts of a set are among the users of each fact and of each event that occurs in their formulas
pub record AreKeptUsers (system : System) (set : NumberSet) (users : Users) : Type 0 where
  pub facts : (n g : ℕ) (fact : FactInfo) → Has set n → IsFact system n fact → g < length system.facts → occurs g fact.formula ≡ true → Has (users_at users.facts.items g) n
  pub events : (n e : ℕ) (fact : FactInfo) → Has set n → IsFact system n fact → e < length system.events → occurs_event e fact.formula ≡ true → Has (users_at users.events.items e) n

-- what is known of all events: the table of no event, which facts are effects, on what they depend, and its users
pub record IsKnown (system : System) (effects : List ℕ) (known : Known) : Type 0 where
  pub base : IsTable system no_event known.base
  pub effects_are : (n : ℕ) → member known.effects n ≡ set_of effects n
  pub users_are : AreKeptUsers system (member known.reach.facts) known.users
  pub reach_is : IsReach system effects known.reach

-- the events of a set have no rows
abbrev pub AreRowless : System → List ℕ → NumberSet → Type 0
AreRowless system effects events = (event : ℕ) → Has events event → event_rows system effects event ≡ []

-- ---- tests

-- what a run says of it: the system, the events, and the round of each fact
pub record Tested : Type 0 where
  pub system : System
  pub events : NumberSet
  pub times : List ℕ

abbrev pub tested_of : Run → Tested
tested_of run = record { system = run.system.now; events = member run.only.now; times = run.times.now }

-- the time of a fact fits
abbrev pub Fits : Tested → ℕ → Type 0
Fits run fact = FitsFact run.system run.events (time_of run.times) fact

-- the times of these facts fit
abbrev pub AllFit : Tested → NumberSet → Type 0
AllFit run facts = (n : ℕ) → Has facts n → Fits run n

-- the time of a fact fits, and those of its users do
abbrev pub FitsAround : Tested → List (List ℕ) → ℕ → Type 0
FitsAround run users fact = Fits run fact × AllFit run (users_at users fact)

-- no mark is higher than this one, and the times of the facts that have it fit
pub record IsTested (run : Tested) (mark : ℕ) (marks : List ℕ) : Type 0 where
  pub low : (n : ℕ) → slice_index_or marks n 0 ≤ mark
  pub fit : (n : ℕ) → slice_index_or marks n 0 ≡ mark → Fits run n

-- the times fit wherever changes or an event may be felt
pub record FitsWhereFelt (run : Tested) (users : Users) (event : ℕ) (changes : List Change) : Type 0 where
  pub around : (g : ℕ) → Has (set_of (facts_of changes)) g → FitsAround run users.facts.items g
  pub at_event : AllFit run (users_at users.events.items event)

-- between two events: the table is that of no event, and no mark is higher than the number of events that are done
pub record IsBetween (base : List ℕ) (done : ℕ) (times marks : List ℕ) : Type 0 where
  pub same : times ≡ base
  pub low : (n : ℕ) → slice_index_or marks n 0 ≤ done

-- a set of no number, with room for so many
pub record IsNone (size : ℕ) (marks : List Bool) : Type 0 where
  pub size_is : length marks ≡ size
  pub none : (n : ℕ) → member marks n ≡ false

-- ---- rows of tables

-- what a table of no event and one of an event say of a fact: it has no time in the one, and one in the other
abbrev pub is_new : List ℕ → ℕ → ℕ → Bool
is_new base fact time = (time_of base fact == 0) && nat_lt 0 time

-- a row, where this is so
abbrev pub row_if : Bool → ℕ → ℕ → ℕ → List Row
row_if is_so event fact time = if is_so then record { event = event; effect = fact; round = time } ∷ [] else []

-- the rows of an event over some facts, as its table says
abbrev pub table_rows : List ℕ → List ℕ → ℕ → List ℕ → List Row
table_rows base times event facts = flat_map (λ n. row_if (is_new base n (time_of times n)) event n (time_of times n)) facts

-- the rows of an event over what changes
abbrev pub changed_rows : Known → ℕ → List Change → List Row
changed_rows known event changes =
    flat_map (λ change. row_if (member known.effects change.fact && is_new known.base change.fact change.time) event change.fact change.time) changes
