use Rattle.std.proofs.Common.{◌≡◌, drop}
use Rattle.galileo_reader.specs.Nodes.{bad_count}
use Rattle.galileo_reader.proofs.checks.bad_count.Given as goal

abbrev pub invariant-loop-line : goal.invariant-loop-line
invariant-loop-line l = bad_count (drop l.line-index l.lines) ≡ bad_count l.lines
