use Rattle.std.proofs.Common.{◌≡◌, ◌++◌, drop, flat_map}
use Rattle.hazard_values.specs.Texts.{further_text}
use Rattle.hazard_values.proofs.text.put_further_texts.Given as goal

abbrev pub invariant-loop-number : goal.invariant-loop-number
invariant-loop-number l = l.text ++ flat_map further_text (drop l.number l.tokens) ≡ l.fn.text ++ flat_map further_text (drop 1 l.tokens)
