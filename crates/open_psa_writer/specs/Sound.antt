-- What a text of the Open-PSA Model Exchange Format is to be like, so that it can be read: each name has one definition.
use Rattle.std.specs.Prelude.{ℕ, ◌≢◌, List, [], ◌∷◌, map, AllPairs, Contains}
use Rattle.std.specs.List.{AllByRecursion}
use Rattle.open_psa_writer.specs.Mef.{Choice, EventInput, GateInput, GateName, Mef, MefFormula, MefGate, MefInput, Over}

-- no two numbers are the same
abbrev pub NumbersDiffer : List ℕ → Type 0
NumbersDiffer numbers = AllPairs (λ a b. a ≢ b) numbers

-- no two names are the same
abbrev pub NamesDiffer : List GateName → Type 0
NamesDiffer names = AllPairs (λ a b. a ≢ b) names

-- the gates of a text
abbrev pub gates_of : Mef → List MefGate
gates_of mef = mef.top ∷ mef.others

-- the inputs of a formula
abbrev pub inputs_of : MefFormula → List MefInput
inputs_of (Over kind ins) = ins
inputs_of (Choice first second third) = first ∷ second ∷ third ∷ []

-- an input is defined
abbrev pub IsDefined : Mef → MefInput → Type 0
IsDefined mef (EventInput number) = Contains (map (λ event. event.number) mef.events) number
IsDefined mef (GateInput name) = Contains (map (λ gate. gate.name) (gates_of mef)) name

-- No two gates have one name, no two basic events have one number, and each input of a gate is defined.
pub record IsSoundMef (mef : Mef) : Type 0 where
  pub gates : NamesDiffer (map (λ gate. gate.name) (gates_of mef))
  pub events : NumbersDiffer (map (λ event. event.number) mef.events)
  pub inputs : AllByRecursion (λ gate. AllByRecursion (IsDefined mef) (inputs_of gate.formula)) (gates_of mef)
