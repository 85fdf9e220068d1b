use Rattle.std.proofs.Common.{◌≡◌, ℕ, length}
use Rattle.round_gates.specs.declared.node.Node.TheVariants.{Never}
use Rattle.round_gates.specs.inner.Walks.{node_in}
use Rattle.round_gates.proofs.unrolling.false_nodes.Given as goal

abbrev pub invariant-loop : goal.invariant-loop
invariant-loop l = record {
  count : length l.nodes.items ≡ l.counter;
  never : (fact : ℕ) → node_in l.nodes.items fact ≡ Never;
}
