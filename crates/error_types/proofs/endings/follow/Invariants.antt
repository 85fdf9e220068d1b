use Rattle.std.proofs.Common.{◌≡◌}
use Rattle.error_types.specs.inner.Endings.{IsWay, origin}
use Rattle.error_types.proofs.endings.follow.Given as goal

abbrev pub invariant-loop : goal.invariant-loop
invariant-loop l = record {
  kept : l.declarations ≡ l.fn.declarations;
  way : IsWay l.fn.declarations l.way l.last;
  origin : origin l.way l.last ≡ l.fn.id;
}
