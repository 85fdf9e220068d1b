use Rattle.std.proofs.Common.{ℕ, ◌<◌}
use Rattle.system_answers.specs.Targets.{HasName}
use Rattle.system_answers.proofs.target.find_target.Given as goal

abbrev pub invariant-loop-number : goal.invariant-loop-number
invariant-loop-number l = (n : ℕ) → n < l.number → HasName l.system l.name n → ⊥
