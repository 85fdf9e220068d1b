use Rattle.std.proofs.Common.{ℕ, ◌≡◌, ◌||◌, Bool, get_or, ap, sym, ◌∙◌}
use Rattle.std.proofs.lemmas.List.{get_or_default}
use Rattle.std.proofs.lemmas.List.Folds.{list_any_at}
use Rattle.package_index.proofs.Loops.{any-more}
use Rattle.model_review.specs.Seen.{is_lost_fact, state_number}
use Rattle.model_review.proofs.flows.is_lost_variant.Goals as goal

pub returns-then-branch : goal.returns-then-branch
returns-then-branch c =
    let seen = c.args.part.now.view.now in
    let items = c.args.states.now in
    let i = c.loop-state.state-index in
    let state : ℕ = get_or items i 0 in
    let test : ℕ → Bool = λ state. is_lost_fact seen c.args.part.now.states.now c.args.target (state_number seen c.args.part.now.owner state) in
    let one : c.in_ok-is_lost_fact.field-0 ≡ test state = c.in_ok-is_lost_fact.ensures ∙ ap (is_lost_fact seen c.args.part.now.states.now c.args.target) c.state.ensures in
    sym (list_any_at test items i 0 c.loop-state-test.true (sym one ∙ c.if-branch.true))

pub loop-state-preserved : goal.loop-state-preserved
loop-state-preserved c =
    let seen = c.args.part.now.view.now in
    let items = c.args.states.now in
    let i = c.loop-state.state-index in
    let state : ℕ = get_or items i 0 in
    let test : ℕ → Bool = λ state. is_lost_fact seen c.args.part.now.states.now c.args.target (state_number seen c.args.part.now.owner state) in
    let one : c.in_ok-is_lost_fact.field-0 ≡ test state = c.in_ok-is_lost_fact.ensures ∙ ap (is_lost_fact seen c.args.part.now.states.now c.args.target) c.state.ensures in
    any-more items i state c.loop-state-test.true (get_or_default items i 0 state c.loop-state-test.true) test
    ∙ ap (λ b. b || test state) c.loop-state.invariant ∙ sym one ∙ c.if-branch.false
