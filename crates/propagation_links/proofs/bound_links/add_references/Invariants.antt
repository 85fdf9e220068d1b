use Rattle.std.proofs.Common.{◌≡◌, ◌++◌, flat_map, take}
use Rattle.instantiator.specs.Components.{component_below}
use Rattle.propagation_links.specs.Links.{target_links}
use Rattle.propagation_links.proofs.bound_links.add_references.Given as goal

abbrev pub invariant-loop-reference : goal.invariant-loop-reference
invariant-loop-reference l = l.links ≡ l.fn.links ++ flat_map (λ reference. target_links l.pointed l.itself l.kind l.number (component_below l.pointed.instance.components l.from reference)) (take l.reference-index l.references)
