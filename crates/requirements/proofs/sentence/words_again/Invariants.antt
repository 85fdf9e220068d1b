use Rattle.std.proofs.Common.{◌≡◌, take}
use Rattle.requirements.proofs.sentence.words_again.Given as goal

abbrev pub invariant-loop-word : goal.invariant-loop-word
invariant-loop-word l = l.again ≡ take l.word-index l.words
