use Rattle.std.proofs.Common.{◌≡◌, true, flat_map, ap, ◌∙◌}
use Rattle.plain_values.specs.declared.refusal.Code.TheVariants.{Mapping}
use Rattle.noted_refusals.specs.inner.Noted.{noting}
use Rattle.noted_refusals.proofs.Laws.{noted-more}
use Rattle.plain_values.specs.Refusal.{refused_so}
use Rattle.propagation_points.specs.Points.{scopes_of}
use Rattle.error_flows.specs.Flows.{refusals_of_flows}
use Rattle.error_flows.proofs.flows.flows_of.Goals as goal

pub returns-clause-noted : goal.returns-clause-noted
returns-clause-noted c =
    let table = c.args.reading.now.types in
    let effective = c.args.effective.now in
    let points = c.args.points.now in
    let states = c.args.states.now in
    let scopes : c.items-2.result.now ≡ scopes_of table.packages effective.clauses = c.items-2.ensures.items ∙ c.in_ok-scopes.ensures ∙ ap (scopes_of table.packages) c.items.ensures.items in
    c.note_mappings.ensures ∙ ap (λ mappings. noting c.meanings.new.reading.refusals (flat_map (refused_so true Mapping) mappings)) c.items-3.ensures.items
    ∙ noted-more c.args.reading.now.refusals c.meanings.new.reading.refusals (refusals_of_flows table points states (scopes_of table.packages effective.clauses) effective.propagations.flows) (flat_map (refused_so true Mapping) effective.others.mappings)
    (c.in_ok-found.ensures.noted ∙ (λ i. noting c.args.reading.now.refusals (refusals_of_flows table points states (scopes i) (c.items-flows.ensures.items i))))
