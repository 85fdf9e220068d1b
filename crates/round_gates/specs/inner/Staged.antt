-- Beside specs/Staged.antt: what no clause of `run` reaches.
use Rattle.std.specs.Prelude.{ℕ, ◌<◌, ◌≡◌, List}
use Rattle.plain_values.specs.declared.refusal.Code.TheVariants.{TooManyGates}
use Rattle.plain_values.specs.Refusal.{of_words}
use Rattle.fault_system.specs.Systems.{System}
use Rattle.dependency_blocks.specs.Blocks.{BlockNumbers}
use Rattle.round_gates.specs.declared.tree.GateAnswer.{GateAnswer}
use Rattle.round_gates.specs.declared.tree.GateAnswer.TheVariants.{Constant, Refused, Memory}
use Rattle.round_gates.specs.Staged.{IsConstant, IsVarying, all_places, most_places}

-- why there is no tree: the target is constant; or it is not, and its stages have too many places; want of memory says nothing
abbrev pub IsGateAnswer : System → BlockNumbers → ℕ → List ℕ → GateAnswer → Type 0
IsGateAnswer system numbers target facts (Constant is) = IsConstant system target is
IsGateAnswer system numbers target facts (Refused refusal) =
    IsVarying system target × (most_places < all_places system numbers facts) × (refusal ≡ of_words TooManyGates)
IsGateAnswer system numbers target facts Memory = Unit {0}
