use Rattle.std.proofs.Common.{◌≡◌, map, take}
use Rattle.event_origins.specs.Origins.{origin_of}
use Rattle.event_origins.proofs.origins.origins_of.Given as goal

abbrev pub invariant-loop-event : goal.invariant-loop-event
invariant-loop-event l = l.origins ≡ map (origin_of l.assembly) (take l.event-index l.events)
