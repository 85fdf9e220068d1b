use Rattle.std.proofs.Common.{◌≡◌}
use Rattle.error_libraries.specs.inner.Course.{left}
use Rattle.error_libraries.specs.Search.{search}
use Rattle.error_libraries.proofs.search.search_on.Given as goal

abbrev pub invariant-loop : goal.invariant-loop
invariant-loop l = left l.libraries l.name l.course ≡ search l.libraries l.name l.fn.number
