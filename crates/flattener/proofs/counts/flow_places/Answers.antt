use Rattle.std.proofs.Common.{ap, ◌∙◌}
use Rattle.error_flows.specs.declared.meaning.FlowMeaning.{FlowMeaning}
use Rattle.model_facts.specs.Facts.{event_in, fact_in}
use Rattle.model_facts.specs.declared.keys.EventKind.TheVariants.{Source}
use Rattle.model_facts.specs.declared.keys.FactKind.TheVariants.{Enters}
use Rattle.fact_formulas.specs.Flat.{places}
use Rattle.fact_formulas.specs.Formulas.{flow_formula}
use Rattle.flattener.proofs.Caps.{one-of}
use Rattle.flattener.proofs.Places.{event-place, fact-place}
use Rattle.flattener.proofs.counts.flow_places.Goals as goal

pub returns-in-Event : goal.returns-in-Event
returns-in-Event c =
    one-of _ (ap (λ (meaning : FlowMeaning). places (flow_formula c.args.site.now c.args.number c.args.place meaning)) c.in-Event.is ∙ event-place c.args.site.now.numbered (event_in c.args.site.now.owner (Source c.args.place)))

pub returns-in-Carry : goal.returns-in-Carry
returns-in-Carry c =
    one-of _ (ap (λ (meaning : FlowMeaning). places (flow_formula c.args.site.now c.args.number c.args.place meaning)) c.in-Carry.is ∙ fact-place c.args.site.now.numbered (fact_in c.args.site.now.owner (Enters c.in-Carry.field-0.point c.args.number)))
