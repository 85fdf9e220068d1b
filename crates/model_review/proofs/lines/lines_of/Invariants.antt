use Rattle.std.proofs.Common.{◌≡◌, map, take}
use Rattle.model_review.specs.Lines.{finding_text}
use Rattle.model_review.proofs.lines.lines_of.Given as goal

abbrev pub invariant-loop-finding : goal.invariant-loop-finding
invariant-loop-finding l = l.lines ≡ map (finding_text l.view) (take l.finding-index l.findings)
