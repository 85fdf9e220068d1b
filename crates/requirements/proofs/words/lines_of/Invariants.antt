use Rattle.std.proofs.Common.{◌≡◌, drop}
use Rattle.requirements.specs.Words.{nothing_read, with_bytes}
use Rattle.requirements.proofs.words.lines_of.Given as goal

abbrev pub invariant-loop-at : goal.invariant-loop-at
invariant-loop-at l = with_bytes l.scan l.at (drop l.at l.text) ≡ with_bytes nothing_read 0 l.text
