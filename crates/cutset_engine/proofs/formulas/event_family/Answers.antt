use Rattle.std.proofs.Common.{ap}
use Rattle.zdd_store.specs.inner.Family.{has}
use Rattle.cutset_engine.specs.inner.Gates.{events_of}
use Rattle.cutset_engine.proofs.Parts.{event_made}
use Rattle.cutset_engine.proofs.formulas.event_family.Goals as goal

pub returns : goal.returns
returns c =
    event_made c.args.store.now c.single.new.store c.args.most c.variable.result (λ set. events_of c.args.order.now set c.args.event) c.single.result c.single.ensures.kept c.single.ensures.found c.single.ensures.family
    (λ set. ap (has set) c.variable.ensures)
