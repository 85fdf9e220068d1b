use Rattle.std.proofs.Common.{◌≡◌}
use Rattle.error_types.specs.inner.Trip.{walk_left}
use Rattle.error_types.specs.Walk.{walk_from}
use Rattle.error_types.proofs.walk.walk_from.Given as goal

abbrev pub invariant-loop : goal.invariant-loop
invariant-loop l = record {
  kept : l.declarations ≡ l.fn.declarations;
  left : walk_left l.through l.fn.declarations l.trip ≡ walk_from l.through l.fn.declarations l.fn.id;
}
