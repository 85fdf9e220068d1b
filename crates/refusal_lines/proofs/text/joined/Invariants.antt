use Rattle.std.proofs.Common.{◌≡◌, flat_map, take}
use Rattle.refusal_lines.proofs.text.joined.Given as goal

abbrev pub invariant-loop-line : goal.invariant-loop-line
invariant-loop-line l = l.text.items ≡ flat_map (λ line. line) (take l.line-index l.lines)
