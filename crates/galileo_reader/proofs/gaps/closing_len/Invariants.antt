use Rattle.std.proofs.Common.{◌≡◌, drop}
use Rattle.galileo_reader.specs.WideTokens.{after, closing_len}
use Rattle.galileo_reader.proofs.gaps.closing_len.Given as goal

abbrev pub invariant-loop-at : goal.invariant-loop-at
invariant-loop-at l = after l.at (closing_len (drop l.at l.text)) ≡ closing_len l.text
