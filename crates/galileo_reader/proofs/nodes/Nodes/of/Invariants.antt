use Rattle.std.proofs.Common.{◌≡◌, drop, take}
use Rattle.galileo_reader.specs.Nodes.{second_after, second_line}
use Rattle.galileo_reader.specs.inner.Tables.{Knows}
use Rattle.galileo_reader.proofs.nodes.Nodes.of.Given as goal

abbrev pub invariant-loop-line : goal.invariant-loop-line
invariant-loop-line l = record {
  knows : Knows (take l.line-index l.lines) l.naming;
  once : second_after (take l.line-index l.lines) (drop l.line-index l.lines) ≡ second_line l.lines;
}
