use Rattle.std.proofs.Common.{◌≡◌, ◌++◌, flat_map, take}
use Rattle.stray_bindings.specs.Stray.{braced_strays}
use Rattle.stray_bindings.proofs.stray.add_braced.Given as goal

abbrev pub invariant-loop-binding : goal.invariant-loop-binding
invariant-loop-binding l = l.found ≡ l.fn.found ++ flat_map (braced_strays l.profile l.places l.number) (take l.binding-index l.bindings)
