use Rattle.std.proofs.Common.{◌≡◌, ◌++◌, flat_map, take}
use Rattle.instantiator.specs.Components.{component_below}
use Rattle.propagation_links.specs.Links.{carrier_links}
use Rattle.propagation_links.proofs.carried_links.add_between.Given as goal

abbrev pub invariant-loop-reference : goal.invariant-loop-reference
invariant-loop-reference l =
    l.links ≡ l.fn.links
    ++ flat_map (λ reference. carrier_links l.pointed l.both l.from l.to (component_below l.pointed.instance.components l.stated.component reference)) (take l.reference-index l.fn.stated.references)
