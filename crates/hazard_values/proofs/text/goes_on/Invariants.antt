use Rattle.std.proofs.Common.{◌≡◌, drop}
use Rattle.hazard_values.specs.Texts.{goes_on}
use Rattle.hazard_values.proofs.text.goes_on.Given as goal

abbrev pub invariant-loop-number : goal.invariant-loop-number
invariant-loop-number l = goes_on l.end (drop l.number l.tokens) ≡ goes_on l.first_end (drop 1 l.tokens)
