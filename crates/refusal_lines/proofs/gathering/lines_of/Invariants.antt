use Rattle.std.proofs.Common.{◌≡◌, ◌∷◌, take}
use Rattle.refusal_lines.specs.Text.{lines_of}
use Rattle.refusal_lines.proofs.gathering.lines_of.Given as goal

abbrev pub invariant-loop-refusal : goal.invariant-loop-refusal
invariant-loop-refusal l = l.lines.items ≡ lines_of l.files l.texts (l.first ∷ take l.refusal-index l.others)
