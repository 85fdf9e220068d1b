use Rattle.std.proofs.Common.{◌≡◌, drop}
use Rattle.noted_refusals.specs.inner.Noted.{nothing_noted, noting}
use Rattle.error_libraries.specs.Libraries.{unknown_to}
use Rattle.error_libraries.proofs.library.unknown_to.Given as goal

abbrev pub invariant-loop-block : goal.invariant-loop-block
invariant-loop-block l = noting l.refusals (unknown_to l.index l.fn.home (drop l.block-index l.blocks)) ≡ noting (nothing_noted 0) (unknown_to l.index l.fn.home l.blocks)
