use Rattle.std.proofs.Common.{◌≡◌, ◌++◌, map, take}
use Rattle.event_origins.specs.Declarations.{event_declaration, machine_events}
use Rattle.event_origins.proofs.kinds.events_of.Given as goal

abbrev pub invariant-loop-event : goal.invariant-loop-event
invariant-loop-event l = l.list ≡ map event_declaration (machine_events l.machine) ++ map (λ scoped. event_declaration scoped.item) (take l.event-index l.events)
