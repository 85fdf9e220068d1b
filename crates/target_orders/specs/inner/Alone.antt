-- Facts that hold under one event alone.
use Rattle.std.specs.Prelude.{ℕ, ◌+◌, ◌<◌, ◌≤◌, ◌≡◌, ◌||◌, ◌==◌, Bool, List, [], length}
use Rattle.fault_system.specs.Truth.{NumberSet, Has, member}
use Rattle.fault_system.specs.Systems.{System, Holds}
use Rattle.fault_system.specs.CutSets.{IsCutSet}
use Rattle.fault_system.specs.Rounds.{time_of}
use Rattle.target_orders.specs.Orders.{HoldsWithin}
use Rattle.target_orders.specs.declared.alone.Walk.{Walk}

-- each marked fact holds under no event
abbrev pub AreAlways : System → List Bool → Type 0
AreAlways system marks = (n : ℕ) → Has (member marks) n → IsCutSet system n []

-- each marked fact holds under one event, or under none
abbrev pub AreAlone : System → List Bool → Type 0
AreAlone system marks = (n : ℕ) → Has (member marks) n → HoldsWithin system n 1

-- the facts of a set, and those with a stamp
abbrev pub held_set : NumberSet → List ℕ → ℕ → NumberSet
held_set always stamps stamp n = always n || (time_of stamps n == stamp)

-- The event of a stamp is looked at: no later stamp was given, and each fact with this one holds under the event alone.
pub record IsWalk (system : System) (stamp : ℕ) (walk : Walk) : Type 0 where
  pub some : 0 < stamp
  pub there : stamp ≤ length system.events
  pub few : (n : ℕ) → time_of walk.stamps.items n ≤ stamp
  pub held : (n : ℕ) → time_of walk.stamps.items n ≡ stamp → Holds system (member walk.events) n
  pub only : (k : ℕ) → Has (member walk.events) k → k + 1 ≡ stamp

-- no event is looked at, and no later stamp was given
pub record IsRest (stamp : ℕ) (walk : Walk) : Type 0 where
  pub few : (n : ℕ) → time_of walk.stamps.items n ≤ stamp
  pub none : (k : ℕ) → Has (member walk.events) k → ⊥
