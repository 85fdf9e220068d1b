use Rattle.std.proofs.Common.{◌≡◌, ◌≤◌, ℕ, vec_len}
use Rattle.cut_reports.specs.inner.Diagram.{IsSpread}
use Rattle.cut_reports.proofs.diagram.spread_all.Given as goal

abbrev pub invariant-loop-position : goal.invariant-loop-position
invariant-loop-position l = record {
  spread : (root : ℕ) → IsSpread l.store root l.fn.uses.items l.fn.weights.items (vec_len l.fn.weights) → IsSpread l.store root l.uses.items l.weights.items l.position;
  weights : vec_len l.weights ≡ vec_len l.fn.weights;
  uses : vec_len l.uses ≡ vec_len l.fn.uses;
  inside : l.position ≤ vec_len l.fn.weights;
}

abbrev pub decreases-loop-position : goal.decreases-loop-position
decreases-loop-position l = l.position
