use Rattle.std.proofs.Common.{ℕ, ◌≡◌, Bool, false, filter, ap, ◌∙◌}
use Rattle.std.specs.Option.{option_map_or}
use Rattle.std.proofs.lemmas.List.{take_all}
use Rattle.propagation_links.specs.declared.link.PointAt.{PointAt}
use Rattle.model_facts.specs.Facts.{outward_of}
use Rattle.fact_formulas.specs.Formulas.{end_of}
use Rattle.model_review.specs.Findings.{is_hidden_flow}
use Rattle.model_review.specs.Seen.{number_at, types_in}
use Rattle.model_review.proofs.flows.hidden_types.Goals as goal

pub returns : goal.returns
returns c =
    let seen = c.args.part.now.view.now in
    let flow = c.args.flow.now in
    let test : PointAt → ℕ → Bool = λ side kind. option_map_or (λ target. is_hidden_flow seen c.args.part.now.states.now c.args.part.now.owner c.args.number kind target flow) (number_at seen side kind) false in
    let side : c.outward_of-side.result ≡ outward_of c.args.part.now.owner (end_of flow) = c.outward_of-side.ensures ∙ ap (outward_of c.args.part.now.owner) c.end_of.ensures in
    c.loop-kind.invariant
    ∙ ap (filter (test c.outward_of-side.result)) (take_all c.loop-kind.kind-index c.types-kind-items.result.now c.loop-kind-test.false ∙ c.types-kind-items.ensures)
    ∙ ap (λ (s : PointAt). filter (test s) (types_in seen s)) side
