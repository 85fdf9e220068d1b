use Rattle.std.proofs.Common.{◌≡◌, map, take}
use Rattle.fact_formulas.specs.Flat.{event_info}
use Rattle.flattener.proofs.flat.event_infos.Given as goal

abbrev pub invariant-loop-event : goal.invariant-loop-event
invariant-loop-event l = l.infos ≡ map (event_info l.numbers.assembly) (take l.event-index l.event-items)
