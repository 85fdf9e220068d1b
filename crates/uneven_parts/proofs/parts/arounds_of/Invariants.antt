use Rattle.std.proofs.Common.{◌≡◌, map, take}
use Rattle.instantiator.specs.declared.path.Component.{Component}
use Rattle.uneven_parts.specs.Unlike.{around_path}
use Rattle.uneven_parts.proofs.parts.arounds_of.Given as goal

abbrev pub invariant-loop-component : goal.invariant-loop-component
invariant-loop-component l = l.found ≡ map (λ (component : Component). around_path l.instance.components component.path) (take l.component-index l.components)
