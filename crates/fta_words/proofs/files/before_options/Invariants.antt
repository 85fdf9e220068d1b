use Rattle.std.proofs.Common.{◌≡◌, ◌++◌, take, drop}
use Rattle.fta_words.specs.Words.{before_options}
use Rattle.fta_words.proofs.files.before_options.Given as goal

abbrev pub invariant-loop-number : goal.invariant-loop-number
invariant-loop-number l = before_options l.words ≡ take l.number l.words ++ before_options (drop l.number l.words)
