use Rattle.std.proofs.Common.{◌≡◌, drop}
use Rattle.galileo_reader.specs.Nodes.{top_of}
use Rattle.galileo_reader.proofs.checks.top_of.Given as goal

abbrev pub invariant-loop-line : goal.invariant-loop-line
invariant-loop-line l = top_of (drop l.line-index l.lines) ≡ top_of l.lines
