use Rattle.std.proofs.Common.{◌≡◌}
use Rattle.error_libraries.specs.Libraries.{library_scope}
use Rattle.error_types.proofs.SettleLaws.{Sums}
use Rattle.error_types.proofs.settle.gather.Given as goal

abbrev pub invariant-loop : goal.invariant-loop
invariant-loop l = record {
  kept : l.declarations ≡ l.fn.declarations;
  sums : Sums l.fn.declarations (library_scope l.fn.declarations l.home) l.fn.start l.fn.needs l.sum l.needs;
}
