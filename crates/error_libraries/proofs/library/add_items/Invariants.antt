use Rattle.std.proofs.Common.{◌≡◌, ◌++◌, take}
use Rattle.error_libraries.proofs.library.add_items.Given as goal

abbrev pub invariant-loop-item : goal.invariant-loop-item
invariant-loop-item l = l.items ≡ l.fn.items ++ take l.item-index l.more
