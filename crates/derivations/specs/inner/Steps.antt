-- Beside specs/Steps.antt: what no clause of `run` reaches.
use Rattle.std.specs.Prelude.{ℕ, List, Option, MatchOption, length}
use Rattle.fault_system.specs.Truth.{NumberSet, member}
use Rattle.fault_system.specs.Systems.{System}
use Rattle.derivations.specs.declared.derivation.Firing.{Firing}
use Rattle.derivations.specs.declared.derivation.Finding.{Finding}
use Rattle.derivations.specs.declared.derivation.Finding.TheVariants.{Good, Wrong, WrongEnd}
use Rattle.derivations.specs.declared.checking.Checked.{Checked}
use Rattle.derivations.specs.Steps.{AreRight, IsGood, IsFirstWrong, HasWrongEnd}

-- what is found of a derivation
abbrev pub IsFinding : System → ℕ → NumberSet → List Firing → Finding → Type 0
IsFinding system target events steps Good = IsGood system target events steps
IsFinding system target events steps (Wrong number) = IsFirstWrong system events steps number
IsFinding system target events steps WrongEnd = HasWrongEnd system target events steps

-- the first step that is not right, or none where all are right
abbrev pub HasFirstWrong : Checked → Option ℕ → Type 0
HasFirstWrong checked found =
    MatchOption found (AreRight checked.system.now (member checked.events.now) checked.steps.now (length checked.steps.now))
    (λ number. IsFirstWrong checked.system.now (member checked.events.now) checked.steps.now number)
