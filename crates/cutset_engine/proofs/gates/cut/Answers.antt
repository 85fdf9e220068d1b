use Rattle.cutset_engine.proofs.Covering.{made_cut}
use Rattle.cutset_engine.proofs.gates.cut.Goals as goal

pub returns-in-Some : goal.returns-in-Some
returns-in-Some c = made_cut c.args.store.now c.up_to_size.new.store c.in-Some.most c.args.most c.args.id c.up_to_size.result c.laws.ensures c.requires c.in-Some.is c.up_to_size.ensures.kept c.up_to_size.ensures.found c.up_to_size.ensures.family
