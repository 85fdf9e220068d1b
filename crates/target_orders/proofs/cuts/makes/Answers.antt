use Rattle.std.proofs.Common.{◌∙◌, sym}
use Rattle.fault_system.specs.Truth.{member}
use Rattle.target_orders.specs.inner.Cuts.{cut_facts}
use Rattle.target_orders.proofs.CutLaws.{cut-holds}
use Rattle.target_orders.proofs.MadeLaws.{made-holds}
use Rattle.target_orders.proofs.cuts.makes.Goals as goal

pub returns-in-Some : goal.returns-in-Some
returns-in-Some c there =
    let system = c.args.system.now in
    let events = member c.args.events.now in
    made-holds system events (cut_facts (member c.args.always.now) c.args.sets.now events) c.args.fact c.in-Some.info.now (sym c.in-Some.ensures) (sym c.is_true.ensures ∙ there)
    (cut-holds system c.args.always.now c.args.sets.now events c.requires.always c.requires.sets)
