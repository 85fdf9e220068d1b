use Rattle.std.proofs.Common.{◌≡◌, ◌++◌, flat_map, take}
use Rattle.bindings.specs.Bindings.{bindings_in}
use Rattle.component_extension.proofs.bound.add_stated.Given as goal

abbrev pub invariant-loop-section : goal.invariant-loop-section
invariant-loop-section l = l.bindings ≡ l.fn.bindings ++ flat_map (bindings_in l.file) (take l.section-index l.sections)
