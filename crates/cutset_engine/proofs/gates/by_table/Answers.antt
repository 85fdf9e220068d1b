use Rattle.cutset_engine.proofs.Covering.{made_some}
use Rattle.cutset_engine.proofs.gates.by_table.Goals as goal

pub returns : goal.returns
returns c =
    made_some c.args.store.now c.at_least_up_to.new.store c.cut.new.store c.args.most c.bound_of.result c.args.least c.args.parts.now c.in_ok-choice.choice c.cut.result c.bound_of.ensures c.at_least_up_to.ensures.kept c.in_ok-choice.ensures.covers c.cut.ensures
