use Rattle.std.proofs.Common.{◌≡◌, ◌++◌, take}
use Rattle.fta_words.proofs.files.add_copies.Given as goal

abbrev pub invariant-loop-word : goal.invariant-loop-word
invariant-loop-word l = l.copies ≡ l.fn.copies ++ take l.word-index l.words
