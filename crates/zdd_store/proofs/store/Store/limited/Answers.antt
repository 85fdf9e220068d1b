use Rattle.std.proofs.Common.{◌≡◌, length, sym, ap, subst, arith}
use Rattle.zdd_store.specs.inner.Nodes.{families, IsStore}
use Rattle.zdd_store.proofs.Growing.{no_nodes_store}
use Rattle.zdd_store.proofs.store.Store.limited.Goals as goal

pub invariant_of-result : goal.invariant_of-result
unfolding families
invariant_of-result c = (
  subst IsStore (sym c.new.ensures.empty) no_nodes_store,
  λ place sizes e. absurd (let f = rw (c.new-2.ensures.items) at e in cc),
  λ place known h. absurd (let f : length c.new-3.result.items ≡ 0 = ap length c.new-3.ensures.items in omega arith),
  λ question answer e. absurd (let f = rw (c.new-4.ensures.empty) at e in cc),
)

pub returns : goal.returns
unfolding families
returns c = ap families c.new.ensures.empty
