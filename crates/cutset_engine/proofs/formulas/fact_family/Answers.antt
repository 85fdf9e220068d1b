use Rattle.cutset_engine.proofs.Parts.{fact_none}
use Rattle.cutset_engine.proofs.formulas.fact_family.Goals as goal

pub returns-in-None : goal.returns-in-None
returns-in-None c = fact_none c.args.store.now c.args.most c.args.now.now c.args.fact c.laws.ensures c.in-None.ensures.lookup.3
