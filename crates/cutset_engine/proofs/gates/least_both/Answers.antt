use Rattle.zdd_families.specs.inner.Steps.{both}
use Rattle.zdd_store.specs.inner.Store.{family_of}
use Rattle.cutset_engine.proofs.Covering.{made_then}
use Rattle.cutset_engine.proofs.gates.least_both.Goals as goal

pub returns : goal.returns
returns c =
    made_then c.args.store.now c.min_product_up_to.new.store c.cut.new.store c.args.most _ (both (family_of c.args.store.now c.args.a) (family_of c.args.store.now c.args.b)) c.cut.result c.min_product_up_to.ensures.kept c.cut.ensures
    (λ set within. c.in_ok-product.ensures.covers.covering set (c.bound_of.ensures set within))
