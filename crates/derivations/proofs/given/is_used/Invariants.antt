use Rattle.std.proofs.Common.{◌≡◌, drop}
use Rattle.derivations.specs.Steps.{facts_of}
use Rattle.derivations.proofs.given.is_used.Given as goal

abbrev pub invariant-loop-number : goal.invariant-loop-number
invariant-loop-number l = facts_of l.steps (drop l.number-index l.numbers) l.fact ≡ facts_of l.steps l.numbers l.fact
