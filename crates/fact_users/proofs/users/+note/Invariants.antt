use Rattle.std.proofs.Common.{map, take}
use Rattle.std.specs.List.{list_any}
use Rattle.fault_system.specs.Truth.{occurs, occurs_event}
use Rattle.fact_users.specs.inner.Users.{Notes}
use Rattle.fact_users.proofs.users.+note.Given as goal

abbrev pub invariant-note_parts-loop-part : goal.invariant-note_parts-loop-part
invariant-note_parts-loop-part l =
    Notes l.user (λ g. list_any (λ part. part) (map (occurs g) (take l.part-index l.parts))) (λ e. list_any (λ part. part) (map (occurs_event e) (take l.part-index l.parts))) l.fn.users l.users
