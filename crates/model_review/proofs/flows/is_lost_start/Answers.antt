use Rattle.std.proofs.Common.{ℕ, ◌≡◌, ◌||◌, ◌&&◌, Bool, get_or, ap, sym, ◌∙◌}
use Rattle.std.specs.List.{list_any}
use Rattle.std.proofs.lemmas.List.{get_or_default}
use Rattle.std.proofs.lemmas.List.Folds.{list_any_at}
use Rattle.package_index.proofs.Loops.{any-more}
use Rattle.propagation_points.specs.Uses.{covers}
use Rattle.propagation_links.specs.declared.link.PointAt.{PointAt}
use Rattle.model_facts.specs.Facts.{inward_of}
use Rattle.model_review.specs.Seen.{is_lost_fact, number_at, types_in}
use Rattle.model_review.proofs.flows.is_lost_start.Goals as goal

pub returns-then-branch : goal.returns-then-branch
returns-then-branch c =
    let seen = c.args.part.now.view.now in
    let start = c.args.start.now in
    let items = c.types-other-items.result.now in
    let i = c.loop-other.other-index in
    let other : ℕ = get_or items i 0 in
    let test : PointAt → ℕ → Bool = λ side other. covers start.types other && is_lost_fact seen c.args.part.now.states.now c.args.target (number_at seen side other) in
    let side : c.inward_of-side.result ≡ inward_of c.args.part.now.owner start.point = c.inward_of-side.ensures in
    let one : c.in_ok-is_lost_type.field-0 ≡ test (inward_of c.args.part.now.owner start.point) other = c.in_ok-is_lost_type.ensures ∙ ap (λ (s : PointAt). test s other) side in
    let all = c.types-other-items.ensures ∙ ap (types_in seen) side in
    sym (ap (list_any (test (inward_of c.args.part.now.owner start.point))) (sym all) ∙ list_any_at (test (inward_of c.args.part.now.owner start.point)) items i 0 c.loop-other-test.true (sym one ∙ c.if-branch.true))

pub loop-other-preserved : goal.loop-other-preserved
loop-other-preserved c =
    let seen = c.args.part.now.view.now in
    let start = c.args.start.now in
    let items = c.types-other-items.result.now in
    let i = c.loop-other.other-index in
    let other : ℕ = get_or items i 0 in
    let test : PointAt → ℕ → Bool = λ side other. covers start.types other && is_lost_fact seen c.args.part.now.states.now c.args.target (number_at seen side other) in
    let side : c.inward_of-side.result ≡ inward_of c.args.part.now.owner start.point = c.inward_of-side.ensures in
    let one : c.in_ok-is_lost_type.field-0 ≡ test (inward_of c.args.part.now.owner start.point) other = c.in_ok-is_lost_type.ensures ∙ ap (λ (s : PointAt). test s other) side in
    any-more items i other c.loop-other-test.true (get_or_default items i 0 other c.loop-other-test.true) (test (inward_of c.args.part.now.owner start.point))
    ∙ ap (λ b. b || test (inward_of c.args.part.now.owner start.point) other) c.loop-other.invariant ∙ sym one ∙ c.if-branch.false
