use Rattle.cutset_engine.proofs.Covering.{made_any}
use Rattle.cutset_engine.proofs.gates.any_of.Goals as goal

pub returns : goal.returns
returns c = made_any c.args.store.now c.of_gate.new.store c.args.most c.args.least c.args.parts.items c.of_gate.result c.requires.one c.of_gate.ensures
