use Rattle.std.proofs.Common.{ℕ, ◌<◌, List, length, subst, refl}
use Rattle.round_gates.specs.declared.tree.Gate.{Gate}
use Rattle.merged_gates.specs.inner.Tests.{AllLater, RisesAt}
use Rattle.merged_gates.proofs.checks.are_right.Goals as goal

pub returns : goal.returns
returns c = λ right. record {
  right = c.all_right.ensures right;
  rise = subst (λ (gates : List Gate). (n : ℕ) → n < length gates → RisesAt gates n) c.items-gates.ensures.items (c.if-not-names_rise.ensures refl);
  later = subst (λ (gates : List Gate). AllLater gates c.args.ranks.now) c.items-gates.ensures.items (c.if-not-all_later.ensures refl);
}
