use Rattle.std.proofs.Common.{ap, ◌∙◌, sym, option_and_then}
use Rattle.instantiator.specs.Components.{component_below}
use Rattle.instantiator.specs.Whole.{Instance}
use Rattle.propagation_links.specs.Ends.{is_empty, point_of}
use Rattle.propagation_links.proofs.EndLaws.{front-is, last-is}
use Rattle.propagation_links.proofs.pointed.Pointed.path_end.Goals as goal

pub returns : goal.returns
returns c =
    let pointed = c.args.self.now in
    let names = c.args.names.now in
    let split = c.in_ok-last.ensures.cases.0 in
    let fronts = front-is names c.in_ok-last.front.now c.in_ok-last.last.now split in
    let found = ap (component_below pointed.instance.components c.args.number) fronts
    ∙ ap (λ (instance : Instance). component_below instance.components c.args.number c.in_ok-last.front.now) (sym c.instance.ensures) ∙ sym c.find_below.ensures ∙ c.in_ok-component.was in
    let name = last-is names c.in_ok-last.front.now c.in_ok-last.last.now split in
    c.point_of.ensures ∙ (λ i. point_of pointed (c.is_empty.ensures i) c.in_ok-component.component (c.text.ensures.text i))
    ∙ sym (λ i. option_and_then (λ component. option_and_then (point_of pointed (is_empty (fronts i)) component) (name i)) (found i))
