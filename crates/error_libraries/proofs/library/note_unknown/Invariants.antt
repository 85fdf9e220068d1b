use Rattle.std.proofs.Common.{◌≡◌, drop}
use Rattle.noted_refusals.specs.inner.Noted.{noting}
use Rattle.error_libraries.specs.Libraries.{unknown_libraries}
use Rattle.error_libraries.proofs.library.note_unknown.Given as goal

abbrev pub invariant-loop-reference : goal.invariant-loop-reference
invariant-loop-reference l = noting l.refusals (unknown_libraries l.index l.fn.home (drop l.reference-index l.references)) ≡ noting l.fn.refusals (unknown_libraries l.index l.fn.home l.references)
