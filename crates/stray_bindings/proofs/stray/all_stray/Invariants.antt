use Rattle.std.proofs.Common.{◌≡◌, take}
use Rattle.plain_values.specs.Numbered.{numbered_from}
use Rattle.stray_bindings.specs.Stray.{stray_of}
use Rattle.stray_bindings.proofs.stray.all_stray.Given as goal

abbrev pub invariant-loop-number : goal.invariant-loop-number
invariant-loop-number l = l.found ≡ numbered_from (stray_of l.profile l.places) 0 (take l.number l.places.components)
