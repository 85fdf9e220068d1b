use Rattle.std.proofs.Common.{◌∙◌, ap, arith}
use Rattle.zdd_store.specs.inner.Store.{family_at}
use Rattle.forbidden_sets.proofs.Firsts.{head-made}
use Rattle.forbidden_sets.proofs.searching.head_of.Goals as goal

pub returns-then-id-eq0 : goal.returns-then-id-eq0
returns-then-id-eq0 c = ap (family_at c.args.store.now) c.if-id-eq0.true ∙ c.laws.ensures.empty

pub push_first-requires-clause-some : goal.push_first-requires-clause-some
push_first-requires-clause-some c = let some = c.if-id-eq0.false in omega (arith, some)

pub returns : goal.returns
returns c =
    let its = c.in_ok-push_first.ensures in
    head-made (family_at c.args.store.now c.args.id.position) c.new-set.result its.0 c.push_first.new.set its.1 c.new-set.ensures its.2 its.3 (c.laws.ensures.ordered c.args.id.position c.requires)
