use Rattle.std.proofs.Common.{◌≡◌, take}
use Rattle.error_libraries.specs.Libraries.{extended_by}
use Rattle.error_libraries.proofs.library.extended_by.Given as goal

abbrev pub invariant-loop-block : goal.invariant-loop-block
invariant-loop-block l = l.libraries ≡ extended_by l.index l.fn.home (take l.block-index l.blocks)
