use Rattle.std.proofs.Common.{◌&&◌, map, take}
use Rattle.std.specs.List.{list_any}
use Rattle.fault_system.specs.Truth.{occurs, occurs_event}
use Rattle.backward_slice.specs.inner.Marks.{Adds}
use Rattle.backward_slice.proofs.marking.+visit.Given as goal

abbrev pub invariant-visit_parts-loop-part : goal.invariant-visit_parts-loop-part
invariant-visit_parts-loop-part g l =
    Adds (λ n. list_any (λ part. part) (map (occurs n) (take l.part-index l.parts)) && g.W.Ways.ways l.ways l.from n) (λ n. list_any (λ part. part) (map (occurs_event n) (take l.part-index l.parts))) l.fn.marking l.marking
