use Rattle.cutset_engine.proofs.Parts.{always_made}
use Rattle.cutset_engine.proofs.formulas.always.Goals as goal

pub returns : goal.returns
returns c = always_made c.args.store.now c.args.most c.laws.ensures
