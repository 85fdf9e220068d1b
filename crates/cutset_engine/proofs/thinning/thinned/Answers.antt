use Rattle.std.proofs.Common.{sym, subst}
use Rattle.fault_system.specs.Systems.{IsSystem}
use Rattle.cutset_engine.proofs.ThinLaws.{thin-made, thin-system}
use Rattle.cutset_engine.proofs.thinning.thinned.Goals as goal

pub new-requires : goal.new-requires
new-requires c =
    let system = c.args.system.now in
    let made = thin-made c.args.dropped.now c.args.but system c.in_ok-thin.thin _ c.in_ok-events.events _ c.in_ok-thin.ensures c.fact_infos.ensures.facts c.in_ok-events.ensures c.event_infos.ensures.events in
    subst IsSystem (sym made) (thin-system c.args.dropped.now c.args.but system c.facts-facts.ensures.system)
