use Rattle.zdd_families.specs.inner.Steps.{both}
use Rattle.zdd_store.specs.inner.Store.{family_of}
use Rattle.cutset_engine.proofs.Covering.{made_wide}
use Rattle.cutset_engine.proofs.gates.wide_both.Goals as goal

pub returns : goal.returns
returns c =
    made_wide c.args.store.now c.wide_product.new.store c.args.most (both (family_of c.args.store.now c.args.a) (family_of c.args.store.now c.args.b)) c.wide_product.result c.wide_product.ensures.kept c.wide_product.ensures.found c.wide_product.ensures.covers
