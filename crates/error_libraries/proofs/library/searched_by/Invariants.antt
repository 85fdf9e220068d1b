use Rattle.std.proofs.Common.{◌≡◌, ◌∷◌, take}
use Rattle.error_libraries.specs.Libraries.{used_by}
use Rattle.error_libraries.proofs.library.searched_by.Given as goal

abbrev pub invariant-loop-block : goal.invariant-loop-block
invariant-loop-block l = l.libraries ≡ l.fn.home ∷ used_by l.index l.fn.home (take l.block-index l.blocks)
