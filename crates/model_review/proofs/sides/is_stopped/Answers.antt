use Rattle.std.proofs.Common.{◌≡◌, true, false, ◌&&◌, not, ap, sym, ◌∙◌}
use Rattle.std.specs.List.{list_any}
use Rattle.propagation_links.specs.declared.link.PointAt.{PointAt}
use Rattle.model_facts.specs.Assembly.{model_at}
use Rattle.model_facts.specs.Facts.{inward_of}
use Rattle.model_review.specs.Findings.{takes}
use Rattle.model_review.specs.Seen.{number_at, stops}
use Rattle.model_review.proofs.sides.is_stopped.Goals as goal

pub returns-then-stops : goal.returns-then-stops
returns-then-stops c =
    let seen = c.args.view.now in
    let owner = c.args.owner in
    let number = c.args.number in
    let kind = c.args.kind in
    let fact = c.fact_at.ensures ∙ ap (λ (side : PointAt). number_at seen side kind) c.inward_of.ensures in
    let there : stops seen (number_at seen (inward_of owner number) kind) ≡ true = ap (stops seen) (sym fact) ∙ sym c.stops.ensures ∙ c.if-stops.true in
    ap not c.is_taken_in.ensures ∙ sym (ap (λ b. b && not (list_any (takes seen owner number kind) (model_at seen.numbered.assembly owner).flows)) there)

pub returns-else-stops : goal.returns-else-stops
returns-else-stops c =
    let seen = c.args.view.now in
    let owner = c.args.owner in
    let number = c.args.number in
    let kind = c.args.kind in
    let fact = c.fact_at.ensures ∙ ap (λ (side : PointAt). number_at seen side kind) c.inward_of.ensures in
    let there : stops seen (number_at seen (inward_of owner number) kind) ≡ false = ap (stops seen) (sym fact) ∙ sym c.stops.ensures ∙ c.if-stops.false in
    c.if-stops.false ∙ sym (ap (λ b. b && not (list_any (takes seen owner number kind) (model_at seen.numbered.assembly owner).flows)) there)
