use Rattle.std.proofs.Common.{◌<◌, ◌∙◌, length, arith}
use Rattle.zdd_store.specs.inner.Store.{family_of}
use Rattle.zdd_families.proofs.Sizing.{told_up_to, all_up_to, none_up_to}
use Rattle.zdd_families.proofs.sizes.within_by_size.Goals as goal

pub returns-then-a-lt2-clause-told : goal.returns-then-a-lt2-clause-told
returns-then-a-lt2-clause-told c = (c.requires, told_up_to c.args.store.now c.args.a c.args.most c.laws.ensures c.if-a-lt2.true)

pub returns-then-shape-lt4294967295-clause-told : goal.returns-then-shape-lt4294967295-clause-told
returns-then-shape-lt4294967295-clause-told c = (
  c.requires,
  all_up_to c.shape-shape.result.greatest c.args.most (family_of c.args.store.now c.args.a) c.if-shape-most.true c.if-shape-lt4294967295.true c.shape-shape.ensures.greatest,
)

pub returns-then-most-shape-clause-told : goal.returns-then-most-shape-clause-told
returns-then-most-shape-clause-told c =
    let some : 1 < length c.args.store.now = c.laws.ensures.some in (
      omega arith,
      c.laws.ensures.empty ∙ none_up_to c.shape-shape.result.least c.args.most (family_of c.args.store.now c.args.a) c.if-most-shape.true c.shape-shape.ensures.least,
    )
