use Rattle.std.proofs.Common.{map, take}
use Rattle.std.specs.List.{list_any}
use Rattle.fault_system.specs.Truth.{member, truth}
use Rattle.fault_system.specs.Rounds.{no_event, only, time_of}
use Rattle.fmea_rows.specs.inner.Columns.{Spreads, with_one}
use Rattle.fmea_rows.proofs.columns.+spread.Given as goal

abbrev pub invariant-spread_parts-loop-part : goal.invariant-spread_parts-loop-part
invariant-spread_parts-loop-part l =
    Spreads (time_of l.way.facts.now) (time_of l.way.events.now) l.way.distance l.way.latest (λ n. list_any (λ part. part) (map (truth no_event (with_one (member l.way.held.now) n)) (take l.part-index l.parts)))
    (λ n. list_any (λ part. part) (map (truth (only n) (member l.way.held.now)) (take l.part-index l.parts))) l.fn.sure l.sure
