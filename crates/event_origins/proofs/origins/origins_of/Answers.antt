use Rattle.std.proofs.Common.{map, All, sym, ap, ◌∙◌, subst}
use Rattle.std.proofs.lemmas.List.{take_all}
use Rattle.event_origins.specs.Origins.{origin_of}
use Rattle.event_origins.specs.inner.Placed.{IsPlaced}
use Rattle.event_origins.proofs.PlaceLaws.{origins-placed}
use Rattle.event_origins.proofs.origins.origins_of.Goals as goal

pub returns-clause-placed : goal.returns-clause-placed
returns-clause-placed c own among =
    let all = c.loop-event.invariant ∙ ap (map (origin_of c.args.assembly.now)) (take_all c.loop-event.event-index c.args.events.now c.loop-event-test.false) in
    subst (All IsPlaced) (sym all) (origins-placed c.args.assembly.now c.args.events.now own among)
