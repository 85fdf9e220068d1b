use Rattle.cutset_engine.proofs.Covering.{unit_made, empty_made}
use Rattle.cutset_engine.proofs.gates.of_none.Goals as goal

pub returns-in-And : goal.returns-in-And
returns-in-And c = unit_made c.args.store.now c.args.most c.args.gate c.laws.ensures c.in-And.is

pub returns-in-Or : goal.returns-in-Or
returns-in-Or c = empty_made c.args.store.now c.args.most c.args.gate c.laws.ensures c.in-Or.is
