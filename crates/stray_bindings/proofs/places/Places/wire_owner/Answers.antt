use Rattle.std.proofs.Common.{ap, ◌∙◌, sym, option_and_then}
use Rattle.instantiator.specs.Components.{component_below}
use Rattle.instantiator.specs.Whole.{Instance}
use Rattle.propagation_links.proofs.EndLaws.{front-is, last-is}
use Rattle.stray_bindings.specs.Stray.{owner_named}
use Rattle.stray_bindings.proofs.places.Places.wire_owner.Goals as goal

pub returns : goal.returns
returns c =
    let instance = c.args.self.now in
    let path = c.args.path.now in
    let split = c.in_ok-name.ensures.cases.0 in
    let fronts = front-is path c.in_ok-name.front.now c.in_ok-name.name.now split in
    let found = ap (component_below instance.components c.args.number) fronts
    ∙ ap (λ (instance : Instance). component_below instance.components c.args.number c.in_ok-name.front.now) (sym c.self.view_is) ∙ sym c.find_below.ensures ∙ c.in_ok-owner.was in
    let name = last-is path c.in_ok-name.front.now c.in_ok-name.name.now split in
    c.owner_named.ensures ∙ (λ i. owner_named instance c.in_ok-owner.owner (c.text.ensures.text i))
    ∙ sym (λ i. option_and_then (λ owner. option_and_then (owner_named instance owner) (name i)) (found i))
