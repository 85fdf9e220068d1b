use Rattle.std.proofs.Common.{◌≡◌, ◌++◌, take}
use Rattle.model_review.specs.Lines.{further_names}
use Rattle.model_review.proofs.lines.push_further_names.Given as goal

abbrev pub invariant-loop-name : goal.invariant-loop-name
invariant-loop-name l = l.text.items ≡ l.fn.text.items ++ further_names (take l.name-index l.names)
