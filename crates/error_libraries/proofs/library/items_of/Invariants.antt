use Rattle.std.proofs.Common.{◌≡◌, take}
use Rattle.error_libraries.specs.Libraries.{items_of}
use Rattle.error_libraries.proofs.library.items_of.Given as goal

abbrev pub invariant-loop-block : goal.invariant-loop-block
invariant-loop-block l = l.items ≡ items_of (take l.block-index l.blocks)
