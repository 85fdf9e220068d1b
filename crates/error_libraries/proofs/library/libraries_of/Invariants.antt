use Rattle.std.proofs.Common.{◌≡◌, ◌∷◌, [], take}
use Rattle.plain_values.specs.Numbered.{numbered_from}
use Rattle.error_libraries.specs.Libraries.{library_of}
use Rattle.error_libraries.proofs.library.libraries_of.Given as goal

abbrev pub invariant-loop-number : goal.invariant-loop-number
invariant-loop-number l = l.libraries ≡ numbered_from (λ number unit. library_of l.index number unit ∷ []) 0 (take l.number l.index)
