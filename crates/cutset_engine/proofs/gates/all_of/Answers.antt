use Rattle.cutset_engine.proofs.Covering.{made_all}
use Rattle.cutset_engine.proofs.gates.all_of.Goals as goal

pub returns : goal.returns
returns c = made_all c.args.store.now c.of_gate.new.store c.args.most c.args.least c.args.parts.items c.of_gate.result c.requires.all c.of_gate.ensures
