use Rattle.std.proofs.Common.{List, subst, ℕ, ◌<◌}
use Rattle.round_gates.specs.declared.tree.Gate.{Gate}
use Rattle.merged_gates.specs.inner.Tests.{AllLater}
use Rattle.merged_gates.proofs.merging.is_ranked.Goals as goal

pub returns-then-top-count : goal.returns-then-top-count
returns-then-top-count c = λ later. record {
  top_in = subst (λ (k : ℕ). c.args.tree.now.top < k) c.len_u32-count.ensures c.if-top-count.true;
  ranks = c.as_slice-numbers.result.now;
  later = subst (λ (gates : List Gate). AllLater gates c.as_slice-numbers.result.now) c.items-gates.ensures.items (c.all_later.ensures later);
}
