use Rattle.std.proofs.Common.{◌&&◌, map, take}
use Rattle.std.specs.List.{list_any}
use Rattle.fault_system.specs.Truth.{member, occurs_event}
use Rattle.derivations.specs.inner.Gathered.{HasMore}
use Rattle.derivations.proofs.gathering.+events.Given as goal

abbrev pub invariant-gather_all_events-loop-part : goal.invariant-gather_all_events-loop-part
invariant-gather_all_events-loop-part l =
    HasMore (λ n. list_any (λ part. part) (map (occurs_event n) (take l.part-index l.parts)) && member l.events n) l.fn.found.items l.found.items
