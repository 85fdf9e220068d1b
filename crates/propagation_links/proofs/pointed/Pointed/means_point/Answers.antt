use Rattle.std.proofs.Common.{ap, ◌∙◌, sym, false}
use Rattle.std.specs.Option.{option_map_or}
use Rattle.instantiator.specs.Components.{component_below}
use Rattle.instantiator.specs.Whole.{Instance}
use Rattle.propagation_links.specs.Refused.{is_point}
use Rattle.propagation_links.proofs.EndLaws.{front-is, last-is}
use Rattle.propagation_links.proofs.pointed.Pointed.means_point.Goals as goal

pub returns-in-Some-find_below : goal.returns-in-Some-find_below
returns-in-Some-find_below c =
    let pointed = c.args.self.now in
    let names = c.args.names.now in
    let split = c.in-Some.ensures.cases.0 in
    let found = ap (component_below pointed.instance.components c.args.number) (front-is names c.in-Some.front.now c.in-Some.last.now split)
    ∙ ap (λ (instance : Instance). component_below instance.components c.args.number c.in-Some.front.now) (sym c.instance.ensures) ∙ sym c.find_below.ensures ∙ c.in-Some-find_below.is in
    let name = last-is names c.in-Some.front.now c.in-Some.last.now split in
    c.is_point.ensures ∙ ap (is_point pointed c.in-Some-find_below.component) c.text.ensures.text
    ∙ sym (λ i. option_map_or (λ component. option_map_or (is_point pointed component) (name i) false) (found i) false)
