use Rattle.std.proofs.Common.{◌≡◌, ◌++◌, flat_map, take}
use Rattle.bindings.specs.Bindings.{braced_bindings}
use Rattle.component_extension.proofs.bound.add_of_subcomponents.Given as goal

abbrev pub invariant-loop-subcomponent : goal.invariant-loop-subcomponent
invariant-loop-subcomponent l =
    l.bindings ≡ l.fn.bindings ++ flat_map (λ subcomponent. braced_bindings subcomponent.spot.file subcomponent.name subcomponent.tail) (take l.subcomponent-index l.subcomponents)
