use Rattle.zdd_families.specs.inner.Steps.{either}
use Rattle.zdd_store.specs.inner.Store.{family_of}
use Rattle.cutset_engine.proofs.Covering.{made_wide}
use Rattle.cutset_engine.proofs.gates.wide_one.Goals as goal

pub returns : goal.returns
returns c =
    made_wide c.args.store.now c.wide_union.new.store c.args.most (either (family_of c.args.store.now c.args.a) (family_of c.args.store.now c.args.b)) c.wide_union.result c.wide_union.ensures.kept c.wide_union.ensures.found c.wide_union.ensures.covers
