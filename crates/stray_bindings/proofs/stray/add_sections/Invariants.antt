use Rattle.std.proofs.Common.{◌≡◌, ◌++◌, flat_map, take}
use Rattle.stray_bindings.specs.Stray.{section_strays}
use Rattle.stray_bindings.proofs.stray.add_sections.Given as goal

abbrev pub invariant-loop-binding : goal.invariant-loop-binding
invariant-loop-binding l = l.found ≡ l.fn.found ++ flat_map (section_strays l.profile l.places l.number) (take l.binding-index l.bindings)
