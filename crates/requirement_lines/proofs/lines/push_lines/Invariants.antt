use Rattle.std.proofs.Common.{◌≡◌, ◌++◌, take}
use Rattle.std.specs.List.{flat_map}
use Rattle.requirement_lines.specs.Lines.{verdict_line}
use Rattle.requirement_lines.proofs.lines.push_lines.Given as goal

abbrev pub invariant-loop-judgement : goal.invariant-loop-judgement
invariant-loop-judgement l = l.text.items ≡ l.fn.text.items ++ flat_map (verdict_line l.system) (take l.judgement-index l.judgements)
