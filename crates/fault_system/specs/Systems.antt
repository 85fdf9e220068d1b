-- Systems of facts and events, and which facts hold under a set of events.
use Rattle.std.specs.Prelude.{ℕ, zero, suc, ◌≡◌, ◌≢◌, Bool, true, false, List, [], map, length, slice_get, Some, unwrap_or, AllPairs, All}
use Rattle.std.specs.Option.{option_map}
use Rattle.fault_system.specs.Truth.{NumberSet, Has, member, truth, in_range}
use Rattle.fault_system.specs.declared.formula.FactInfo.{FactInfo}
use Rattle.fault_system.specs.declared.formula.EventInfo.{EventInfo}

-- the facts and the events of a model, each named by its place
pub record System : Type 0 where
  pub facts : List FactInfo
  pub events : List EventInfo

-- the fact of a number
abbrev pub IsFact : System → ℕ → FactInfo → Type 0
IsFact system number fact = slice_get system.facts number ≡ Some fact

-- the name of a fact by its number
abbrev pub fact_name : System → ℕ → List ℕ
fact_name system number = unwrap_or (option_map (λ fact. fact.name) (slice_get system.facts number)) []

-- the name of an event by its number
abbrev pub event_name : System → ℕ → List ℕ
event_name system number = unwrap_or (option_map (λ event. event.name) (slice_get system.events number)) []

-- no two names are the same
abbrev pub NamesDiffer : List (List ℕ) → Type 0
NamesDiffer names = AllPairs (λ a b. a ≢ b) names

-- each number in a formula is one of a fact or of an event, and names of facts differ, and names of events
pub record IsSystem (system : System) : Type 0 where
  pub ranged : All (λ fact. in_range (length system.facts) (length system.events) fact.formula ≡ true) system.facts
  pub facts_named : NamesDiffer (map (λ fact. fact.name) system.facts)
  pub events_named : NamesDiffer (map (λ event. event.name) system.events)

-- what all formulas say at once under a set of events and a set of facts, one mark for each fact
abbrev pub applied : System → NumberSet → NumberSet → List Bool
applied system events facts = map (λ fact. truth events facts fact.formula) system.facts

-- a set of facts is closed under a set of events if it has each fact whose formula is true under the two
abbrev pub IsClosed : System → NumberSet → NumberSet → Type 0
IsClosed system events facts = (n : ℕ) → Has (member (applied system events facts)) n → Has facts n

-- a fact holds under a set of events if each closed set of facts has it
abbrev pub Holds : System → NumberSet → ℕ → Type 0
Holds system events n = (facts : NumberSet) → IsClosed system events facts → Has facts n

-- the r-th application of all formulas at once, from no fact
abbrev pub round : System → NumberSet → ℕ → List Bool
round system events zero = map (λ _. false) system.facts
round system events (suc r) = applied system events (member (round system events r))

-- the facts that hold under a set of events: as many rounds as there are facts reach them all
abbrev pub holds_of : System → NumberSet → List Bool
holds_of system events = round system events (length system.facts)
