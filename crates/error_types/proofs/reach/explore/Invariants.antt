use Rattle.std.proofs.Common.{◌≡◌}
use Rattle.error_types.specs.inner.Rows.{Remembers}
use Rattle.error_types.proofs.reach.explore.Given as goal

abbrev pub invariant-loop : goal.invariant-loop
invariant-loop l = record {
  kept : l.declarations ≡ l.fn.declarations;
  memory : Remembers l.fn.declarations l.memory;
}
