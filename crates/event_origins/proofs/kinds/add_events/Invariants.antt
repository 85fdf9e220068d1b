use Rattle.std.proofs.Common.{◌≡◌, ◌++◌, map, take}
use Rattle.event_origins.specs.Declarations.{event_declaration}
use Rattle.event_origins.proofs.kinds.add_events.Given as goal

abbrev pub invariant-loop-event : goal.invariant-loop-event
invariant-loop-event l = l.list ≡ l.fn.list ++ map event_declaration (take l.event-index l.events)
