use Rattle.std.proofs.Common.{◌≡◌, flat_map, take}
use Rattle.event_rates.specs.Unused.{event_names}
use Rattle.event_rates.proofs.unused.whole_names.Given as goal

abbrev pub invariant-loop-event : goal.invariant-loop-event
invariant-loop-event l = l.names ≡ flat_map (event_names l.tables.profile l.tables.instance) (take l.event-index l.events)
