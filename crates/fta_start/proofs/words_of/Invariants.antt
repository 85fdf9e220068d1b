use Rattle.std.proofs.Common.{◌≡◌, map, string_bytes, take}
use Rattle.fta_start.proofs.words_of.Given as goal

abbrev pub invariant-loop-text : goal.invariant-loop-text
invariant-loop-text l = l.words.items ≡ map (λ text. string_bytes text) (take l.text-index l.texts)
