use Rattle.std.proofs.Common.{◌≡◌, ℕ, drop}
use Rattle.round_gates.specs.inner.Walks.{node_in}
use Rattle.round_gates.specs.inner.Unrolled.{written}
use Rattle.round_gates.proofs.unrolling.write_all.Given as goal

abbrev pub invariant-loop-part : goal.invariant-loop-part
invariant-loop-part l = (fact : ℕ) → written (drop l.part-index l.found) (node_in l.nodes) fact ≡ written l.found (node_in l.fn.nodes) fact
