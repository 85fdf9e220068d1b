use Rattle.std.proofs.Common.{◌≡◌, ◌++◌, take}
use Rattle.error_libraries.specs.Libraries.{libraries_named}
use Rattle.error_libraries.proofs.library.add_named.Given as goal

abbrev pub invariant-loop-reference : goal.invariant-loop-reference
invariant-loop-reference l = l.libraries ≡ l.fn.libraries ++ libraries_named l.index l.fn.home (take l.reference-index l.references)
