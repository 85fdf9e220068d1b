use Rattle.std.proofs.Common.{◌≡◌, ◌++◌, take}
use Rattle.model_review.specs.Lines.{further_types}
use Rattle.model_review.proofs.lines.push_further.Given as goal

abbrev pub invariant-loop-number : goal.invariant-loop-number
invariant-loop-number l = l.text.items ≡ l.fn.text.items ++ further_types l.types (take l.number-index l.numbers)
