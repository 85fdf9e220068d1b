-- When a text of the Open-PSA Model Exchange Format is true for a set of basic events.
use Rattle.std.specs.Prelude.{ℕ, ◌≡◌, Bool, true, ◌==◌, ◌&&◌, ◌||◌, List, ◌∷◌, map}
use Rattle.std.specs.List.{AllByRecursion, list_any}
use Rattle.fault_system.specs.Truth.{NumberSet}
use Rattle.round_gates.specs.Truths.{kind_true}
use Rattle.galileo_writer.specs.Truth.{NameSet}
use Rattle.open_psa_writer.specs.Mef.{Choice, EventInput, GateInput, GateName, IsMefOf, Mef, MefEvent, MefFormula, MefInput, Over}

-- a set of gates, as the test whether the gate of a name is in it
abbrev pub GateSet : Type 0
GateSet = GateName → Bool

-- the basic events whose names are among the given ones, by their numbers
abbrev pub given_events : List MefEvent → NameSet → NumberSet
given_events events given number = list_any (λ event. (event.number == number) && given event.name) events

-- whether an input is true under sets of basic events and of gates
abbrev pub is_true : NumberSet → GateSet → MefInput → Bool
is_true events gates (EventInput number) = events number
is_true events gates (GateInput name) = gates name

-- whether a formula is true under sets of basic events and of gates: `and` where all its inputs are, `or` where one is, one that
-- counts where at least so many are, and a choice where both of the first two are or the third one is
abbrev pub formula_true : NumberSet → GateSet → MefFormula → Bool
formula_true events gates (Over kind ins) = kind_true kind (map (is_true events gates) ins)
formula_true events gates (Choice first second third) = (is_true events gates first && is_true events gates second) || is_true events gates third

-- the set has each gate whose formula is true, auxiliary ones too
abbrev pub IsClosedMef : Mef → NameSet → GateSet → Type 0
IsClosedMef mef given set =
    AllByRecursion (λ gate. formula_true (given_events mef.events given) set gate.formula ≡ true → set gate.name ≡ true) (mef.top ∷ mef.others)

-- the top is in the least set of gates that has each gate whose formula is true: in each set that has them
abbrev pub Tells : Mef → NameSet → Type 0
Tells mef given = (set : GateSet) → IsClosedMef mef given set → set mef.top.name ≡ true

-- Bytes are a text that is true for a set of names of basic events.
pub record MefTrue (bytes : List ℕ) (given : NameSet) : Type 0 where
  pub mef : Mef
  pub is_mef : IsMefOf bytes mef
  pub tells : Tells mef given
