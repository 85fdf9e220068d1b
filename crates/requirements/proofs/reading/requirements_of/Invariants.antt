use Rattle.std.proofs.Common.{◌≡◌, Ok, drop}
use Rattle.requirements.specs.Requirements.{none_read, with_lines}
use Rattle.requirements.proofs.reading.requirements_of.Given as goal

abbrev pub invariant-loop-line : goal.invariant-loop-line
invariant-loop-line l = with_lines (Ok l.all) (drop l.line-index l.line-items) ≡ with_lines (Ok none_read) l.line-items
