-- Rounds that are told from an effect on. The effect has the distance 1, and what does not lead to it 0.
use Rattle.std.specs.Prelude.{ℕ, suc, ◌+◌, ◌<◌, ◌≡◌, ◌||◌, ◌⊎◌, true, false, List, [], All, length, map}
use Rattle.std.specs.List.{flat_map}
use Rattle.fault_system.specs.Truth.{NumberSet, Has, member, occurs, occurs_event, truth}
use Rattle.fault_system.specs.Systems.{System, IsFact, Holds, round}
use Rattle.fault_system.specs.Rounds.{IsRoundOf, no_event, only, time_of}
use Rattle.fault_system.specs.inner.Rounds.{within}
use Rattle.fault_system.specs.declared.formula.FactInfo.{FactInfo}
use Rattle.fault_system.specs.declared.formula.Formula.{Formula}
use Rattle.fmea_rows.specs.declared.columns.Column.{Column}
use Rattle.fmea_rows.specs.declared.columns.Ends.{Ends}
use Rattle.fmea_rows.specs.declared.columns.Sure.{Sure}
use Rattle.fmea_rows.specs.declared.row.Row.{Row}
use Rattle.fmea_rows.specs.inner.Tables.{is_new, row_if}

-- ---- no way is shorter

-- facts that are at most one farther than so much, and events that are at most so far
pub record AreAround (near first : ℕ → ℕ) (distance latest : ℕ) (facts events : NumberSet) : Type 0 where
  pub facts_are : (n : ℕ) → Has facts n → Has (within near (distance + 1)) n
  pub events_are : (n : ℕ) → Has events n → Has (within first latest) n

-- an event makes a formula true before any fact holds, and without it it is not
pub record IsEarly (event : ℕ) (formula : Formula) : Type 0 where
  pub alone : truth (only event) no_event formula ≡ true
  pub without : truth no_event no_event formula ≡ false

-- What occurs in a formula is near enough: facts and events are at most one farther, and an event that makes it true before any fact
-- holds is as far at most.
pub record IsAround (near first : ℕ → ℕ) (distance events : ℕ) (formula : Formula) : Type 0 where
  pub around : AreAround near first distance (distance + 1) (λ m. occurs m formula) (λ e. occurs_event e formula)
  pub early : (e : ℕ) → e < events → occurs_event e formula ≡ true → IsEarly e formula → Has (within first distance) e

-- what occurs in the formula of a fact that leads to the effect is
abbrev pub IsNear : System → (ℕ → ℕ) → (ℕ → ℕ) → ℕ → Type 0
IsNear system near first n = (fact : FactInfo) → IsFact system n fact → 0 < near n → IsAround near first (near n) (length system.events) fact.formula

-- the first so many facts are
abbrev pub AreNear : System → (ℕ → ℕ) → (ℕ → ℕ) → ℕ → Type 0
AreNear system near first count = (n : ℕ) → n < count → IsNear system near first n

-- ---- a way that is sure

-- under any events, where a fact holds the effect does, as many rounds later as the distance says
abbrev pub LeadsTo : System → ℕ → (ℕ → ℕ) → ℕ → Type 0
LeadsTo system effect near n = (events : NumberSet) (q : ℕ) → Has (member (round system events (suc q))) n → Has (member (round system events (q + near n))) effect

-- facts of which this is so, and events under each of which alone the effect holds in as many rounds as its distance says
pub record AreSure (system : System) (effect : ℕ) (near first : ℕ → ℕ) (sure : Sure) : Type 0 where
  pub facts_lead : (n : ℕ) → Has (member sure.facts) n → LeadsTo system effect near n
  pub events_lead : (e : ℕ) → Has (member sure.events) e → Has (member (round system (only e) (first e))) effect

-- a fact that holds in each round but the first of all
abbrev pub IsConstant : System → ℕ → Type 0
IsConstant system n = (events : NumberSet) (q : ℕ) → Has (member (round system events (suc q))) n

-- these facts do
abbrev pub AreConstant : System → NumberSet → Type 0
AreConstant system held = (n : ℕ) → Has held n → IsConstant system n

-- all events, no event, no fact, and constant facts
pub record AreEnds (system : System) (ends : Ends) : Type 0 where
  pub all_are : (n : ℕ) → n < length system.events → Has (member ends.all) n
  pub no_event_is : (n : ℕ) → member ends.no_event n ≡ false
  pub no_fact_is : (n : ℕ) → member ends.no_fact n ≡ false
  pub constant_are : AreConstant system (member ends.constant)

-- these, and one more
abbrev pub with_one : NumberSet → ℕ → NumberSet
with_one held n m = held m || only n m

-- facts that hold before any round, which are none; or constant facts, and a round more
abbrev pub IsPass : System → NumberSet → ℕ → ℕ → Type 0
IsPass system held distance latest = ((latest ≡ distance) × ((n : ℕ) → held n ≡ false)) ⊎ ((latest ≡ distance + 1) × AreConstant system held)

-- what is new is in these sets, and at the right distance
pub record Spreads (near first : ℕ → ℕ) (distance latest : ℕ) (facts events : NumberSet) (old new : Sure) : Type 0 where
  pub facts_new : (n : ℕ) → Has (member new.facts) n → Has (member old.facts) n ⊎ (Has facts n × (near n ≡ distance + 1))
  pub events_new : (n : ℕ) → Has (member new.events) n → Has (member old.events) n ⊎ (Has events n × (first n ≡ latest))

-- ---- columns

-- the round of the effect is told under an event
abbrev pub IsToldAt : Column → ℕ → Type 0
IsToldAt column event = (time_of column.rounds.items event ≡ 0) ⊎ Has (member column.sure) event

-- A column of an effect: where it does not hold under no event, what is told is its round under the event alone.
pub record IsColumn (system : System) (effect : ℕ) (column : Column) : Type 0 where
  pub effect_is : column.effect ≡ effect
  pub rounds_are : (e : ℕ) → e < length system.events → (Holds system no_event effect → ⊥) → IsToldAt column e → IsRoundOf system (only e) effect (time_of column.rounds.items e)

-- the columns of some effects, in their order
pub record AreColumns (system : System) (effects : List ℕ) (columns : List Column) : Type 0 where
  pub effects_are : map (λ column. column.effect) columns ≡ effects
  pub each : All (λ column. IsColumn system column.effect column) columns

-- there are columns, and each tells the round under an event
pub record AreToldAt (event : ℕ) (columns : List Column) : Type 0 where
  pub some : columns ≡ [] → ⊥
  pub each : All (λ column. IsToldAt column event) columns

-- the rows of an event, as the columns tell
abbrev pub column_rows : List ℕ → ℕ → List Column → List Row
column_rows base event columns =
    flat_map (λ column. row_if (is_new base column.effect (time_of column.rounds.items event)) event column.effect (time_of column.rounds.items event)) columns
