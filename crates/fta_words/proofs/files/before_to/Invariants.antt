use Rattle.std.proofs.Common.{◌≡◌, ◌++◌, take, drop}
use Rattle.fta_words.specs.Words.{before_to}
use Rattle.fta_words.proofs.files.before_to.Given as goal

abbrev pub invariant-loop-number : goal.invariant-loop-number
invariant-loop-number l = before_to l.words ≡ take l.number l.words ++ before_to (drop l.number l.words)
