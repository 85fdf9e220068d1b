use Rattle.std.proofs.Common.{◌+◌, ◌∙◌, ◌∷◌, [], List, length, ap, length-append}
use Rattle.round_gates.specs.declared.node.Node.{Node}
use Rattle.round_gates.specs.declared.node.Node.TheVariants.{Never}
use Rattle.round_gates.specs.inner.Walks.{node_in}
use Rattle.round_gates.proofs.Gathering.{push-default}
use Rattle.round_gates.proofs.unrolling.false_nodes.Goals as goal

pub loop-preserved : goal.loop-preserved
loop-preserved c = record {
  count = ap length c.in_ok-push.ensures.items ∙ length-append c.loop.nodes.items (Never ∷ []) ∙ ap (λ n. n + 1) c.loop.invariant.count;
  never = λ k. ap (λ (xs : List Node). node_in xs k) c.in_ok-push.ensures.items ∙ push-default c.loop.nodes.items Never k ∙ c.loop.invariant.never k;
}
