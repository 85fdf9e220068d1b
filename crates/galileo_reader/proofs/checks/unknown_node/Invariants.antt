use Rattle.std.proofs.Common.{◌≡◌, drop}
use Rattle.galileo_reader.specs.Nodes.{asked, first_some, unknown_name}
use Rattle.galileo_reader.proofs.checks.unknown_node.Given as goal

abbrev pub invariant-loop-line : goal.invariant-loop-line
invariant-loop-line l = first_some (λ line. first_some (unknown_name l.nodes) (asked line)) (drop l.line-index l.line-items) ≡ first_some (λ line. first_some (unknown_name l.nodes) (asked line)) l.line-items
