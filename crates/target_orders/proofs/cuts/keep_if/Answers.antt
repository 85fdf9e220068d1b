use Rattle.std.proofs.Common.{subst}
use Rattle.fault_system.specs.CutSets.{IsCutSet}
use Rattle.target_orders.proofs.cuts.keep_if.Goals as goal

pub keep-requires-clause-cut : goal.keep-requires-clause-cut
keep-requires-clause-cut c = subst (IsCutSet c.args.system.now c.args.fact) c.items.ensures.items (c.is_cut.ensures.cut c.if-is_cut.true)
