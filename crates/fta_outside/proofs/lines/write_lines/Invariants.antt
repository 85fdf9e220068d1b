use Rattle.std.proofs.Common.{◌≡◌, ℕ, ◌≤◌, List, ◌++◌, length}
use Rattle.fta_outside.specs.Outside.{Took}
use Rattle.fta_outside.proofs.lines.write_lines.Given as goal

abbrev pub invariant-loop-line : goal.invariant-loop-line
invariant-loop-line g l =
    (front : List ℕ) × (g.L.Lines.left l.fn.lines ≡ front ++ g.L.Lines.left l.lines) × Took front (g.S.Sink.seen l.fn.sink) (g.S.Sink.seen l.sink) × ((g.S.Sink.seen l.fn.sink).faults ≤ (g.S.Sink.seen l.sink).faults)

abbrev pub decreases-loop-line : goal.decreases-loop-line
decreases-loop-line g l = length (g.L.Lines.left l.lines)
