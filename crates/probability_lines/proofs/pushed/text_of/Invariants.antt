use Rattle.std.proofs.Common.{◌≡◌, take}
use Rattle.probability_lines.specs.ProbabilityText.{lines_text}
use Rattle.probability_lines.proofs.pushed.text_of.Given as goal

abbrev pub invariant-loop-line : goal.invariant-loop-line
invariant-loop-line l = l.text.items ≡ lines_text l.fn.quoted l.fn.whole (take l.line-index l.fn.lines)
