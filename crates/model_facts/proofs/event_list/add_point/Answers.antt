use Rattle.std.proofs.Common.{map, ap, sym, ◌∙◌, subst}
use Rattle.model_facts.specs.Assembly.{side_numbers}
use Rattle.model_facts.specs.Facts.{event_in}
use Rattle.model_facts.specs.inner.Steps.{AddsEvents}
use Rattle.model_facts.specs.declared.keys.EventKind.TheVariants.{Arrival}
use Rattle.model_facts.proofs.StepLaws.{arrivals-free}
use Rattle.model_facts.proofs.event_list.add_point.Goals as goal

pub returns : goal.returns
returns c =
    let owner = c.args.owner in
    let number = c.args.number in
    let inward = c.side_numbers.ensures ∙ ap side_numbers c.side.ensures in
    let whole = ap (map (λ type. event_in owner (Arrival number type))) inward ∙ sym (arrivals-free c.args.linked.now owner number c.args.point.now (sym c.if-has.ensures)) in
    subst (λ events. AddsEvents c.args.events.now c.add_arrivals.new.events events c.add_arrivals.result) whole c.add_arrivals.ensures
