use Rattle.std.proofs.Common.{ℕ, ◌≡◌, ◌++◌, [], List, Option, Some, filter, not, ap, ◌∙◌, subst}
use Rattle.std.specs.Prelude.{OnOk}
use Rattle.std.specs.Option.{option_map_or}
use Rattle.propagation_links.specs.declared.link.PointAt.{PointAt}
use Rattle.model_facts.specs.Facts.{outward_of}
use Rattle.model_review.specs.Findings.{if_any, types_at}
use Rattle.model_review.specs.Seen.{declared_for, may_come, number_at}
use Rattle.model_review.specs.declared.finding.Finding.TheVariants.{Never}
use Rattle.model_review.proofs.sides.NeverOutPointFinding.tell.Goals as goal

pub returns-in-Some : goal.returns-in-Some
returns-in-Some c =
    let seen = c.args.view.now in
    let found = c.args.found.now in
    let side = outward_of c.args.at.owner c.args.at.number in
    let there : Some c.in-Some.types.now ≡ declared_for c.args.point.now.outward = c.in-Some.ensures ∙ ap declared_for c.side.ensures in
    subst (λ (o : Option (List ℕ)). OnOk c.add_never_types.result (c.add_never_types.new.found ≡ found ++ option_map_or (λ types. if_any (λ types. Never (types_at side types)) (filter (λ type. not (may_come seen (number_at seen side type))) types)) o [])) there
    (subst (λ (s : PointAt). OnOk c.add_never_types.result (c.add_never_types.new.found ≡ found ++ if_any (λ types. Never (types_at s types)) (filter (λ type. not (may_come seen (number_at seen s type))) c.in-Some.types.now))) c.outward_of.ensures c.add_never_types.ensures)
