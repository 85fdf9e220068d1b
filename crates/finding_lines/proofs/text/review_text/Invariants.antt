use Rattle.std.proofs.Common.{◌≡◌, take}
use Rattle.std.specs.List.{flat_map}
use Rattle.finding_lines.specs.Text.{line_text}
use Rattle.finding_lines.proofs.text.review_text.Given as goal

abbrev pub invariant-loop-line : goal.invariant-loop-line
invariant-loop-line l = l.text.items ≡ flat_map (line_text l.files l.texts) (take l.line-index l.line-items)
