use Rattle.std.proofs.Common.{ℕ, ◌≡◌, ◌<◌, true, length, drop}
use Rattle.fault_system.specs.Truth.{member}
use Rattle.derivations.specs.Steps.{facts_of}
use Rattle.derivations.proofs.marks.unmark_facts.Given as goal

abbrev pub invariant-loop-number : goal.invariant-loop-number
invariant-loop-number l =
    (n : ℕ) → n < length l.marks → member l.marks n ≡ true → facts_of l.steps (drop l.number-index l.numbers) n ≡ true
