use Rattle.std.proofs.Common.{◌≡◌, drop}
use Rattle.fta_words.specs.Words.{behind_to}
use Rattle.fta_words.proofs.files.behind_to.Given as goal

abbrev pub invariant-loop-number : goal.invariant-loop-number
invariant-loop-number l = behind_to l.words ≡ behind_to (drop l.number l.words)
