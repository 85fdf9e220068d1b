use Rattle.std.proofs.Common.{take}
use Rattle.std.specs.List.{AllByRecursion}
use Rattle.fta_words.specs.Words.{IsPlainWord}
use Rattle.fta_words.proofs.plain.are_plain.Given as goal

abbrev pub invariant-loop-word : goal.invariant-loop-word
invariant-loop-word l = AllByRecursion IsPlainWord (take l.word-index l.words)
