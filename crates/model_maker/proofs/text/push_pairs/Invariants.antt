use Rattle.std.proofs.Common.{◌≡◌, ◌+◌, ◌++◌, flat_map}
use Rattle.plain_values.specs.Numbered.{numbers_below}
use Rattle.model_maker.specs.Text.{pair_lines}
use Rattle.model_maker.proofs.text.push_pairs.Given as goal

abbrev pub invariant-loop-k : goal.invariant-loop-k
invariant-loop-k l = l.text.items ≡ l.fn.text.items ++ flat_map (λ k. pair_lines (k + 1)) (numbers_below l.k)
