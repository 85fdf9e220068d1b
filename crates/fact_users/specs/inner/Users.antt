-- The users of facts and events: the facts in whose formulas they occur.
use Rattle.std.specs.Prelude.{ℕ, ◌<◌, ◌≡◌, ◌==◌, ◌&&◌, ◌||◌, true, List, [], length, slice_index_or}
use Rattle.fault_system.specs.Truth.{NumberSet, Has, occurs, occurs_event, set_of}
use Rattle.fault_system.specs.Systems.{System, IsFact}
use Rattle.fault_system.specs.declared.formula.FactInfo.{FactInfo}
use Rattle.fact_users.specs.declared.users.Users.{Users}

-- the users of a number: those at its place
abbrev pub users_at : List (List ℕ) → ℕ → NumberSet
users_at lists number = set_of (slice_index_or lists number [])

-- A user was noted with all facts of one set and all events of another that have a place, and nothing else was.
pub record Notes (user : ℕ) (facts events : NumberSet) (old new : Users) : Type 0 where
  pub facts_size : length new.facts.items ≡ length old.facts.items
  pub events_size : length new.events.items ≡ length old.events.items
  pub facts_are : (g n : ℕ) → g < length old.facts.items → users_at new.facts.items g n ≡ users_at old.facts.items g n || (facts g && (user == n))
  pub events_are : (e n : ℕ) → e < length old.events.items → users_at new.events.items e n ≡ users_at old.events.items e n || (events e && (user == n))

-- the facts below a number are among the users of each fact and of each event that occurs in their formulas
pub record AreUsersBelow (system : System) (bound : ℕ) (users : Users) : Type 0 where
  pub facts_size : length users.facts.items ≡ length system.facts
  pub events_size : length users.events.items ≡ length system.events
  pub facts : (n g : ℕ) (fact : FactInfo) → n < bound → IsFact system n fact → g < length system.facts → occurs g fact.formula ≡ true → Has (users_at users.facts.items g) n
  pub events : (n e : ℕ) (fact : FactInfo) → n < bound → IsFact system n fact → e < length system.events → occurs_event e fact.formula ≡ true → Has (users_at users.events.items e) n

-- all facts are
abbrev pub AreUsers : System → Users → Type 0
AreUsers system users = AreUsersBelow system (length system.facts) users
