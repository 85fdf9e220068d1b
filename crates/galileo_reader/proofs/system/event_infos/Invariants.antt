use Rattle.std.proofs.Common.{◌≡◌, map, take}
use Rattle.galileo_reader.specs.TreeSystems.{event_info}
use Rattle.galileo_reader.proofs.system.event_infos.Given as goal

abbrev pub invariant-loop-event : goal.invariant-loop-event
invariant-loop-event l = l.infos ≡ map event_info (take l.event-index l.events)
