-- Beside specs/Loops.antt: what no clause of `run` reaches.
use Rattle.std.specs.Prelude.{ℕ, ◌<◌, ◌≡◌, length}
use Rattle.fault_system.specs.Truth.{NumberSet, truth}
use Rattle.fault_system.specs.Systems.{System, IsFact}
use Rattle.fault_system.specs.declared.formula.FactInfo.{FactInfo}

-- a set of facts agrees with the formulas under a set of events: it has exactly the facts whose formulas are true under the two
abbrev pub Agrees : System → NumberSet → NumberSet → Type 0
Agrees system events facts = (n : ℕ) (fact : FactInfo) → IsFact system n fact → facts n ≡ truth events facts fact.formula

-- under each set of events, all sets of facts that agree with the formulas have the same facts of the system
abbrev pub HasOneMeaning : System → Type 0
HasOneMeaning system =
    (events a b : NumberSet) → Agrees system events a → Agrees system events b → (n : ℕ) → n < length system.facts → a n ≡ b n
