use Rattle.std.proofs.Common.{suc, ◌+◌, ◌≡◌, [], ◌∷◌, ◌++◌, get_or, take, refl, ap, sym, subst, ◌∙◌, arith}
use Rattle.std.specs.List.{AllZip}
use Rattle.std.proofs.lemmas.List.{get_or_default}
use Rattle.target_orders.specs.Orders.{IsOrder}
use Rattle.target_orders.specs.Text.{order_line, order_lines}
use Rattle.target_orders.proofs.Said.{lines-more, zip-more}
use Rattle.target_orders.proofs.orders.text_of.Goals as goal

pub loop-fact-preserved : goal.loop-fact-preserved
loop-fact-preserved c =
    let system = c.args.system.now in
    let facts = c.args.facts.now in
    let i = c.loop-fact.fact-index in
    let fact = get_or facts i 0 in
    let order = c.in_ok-order.order in
    let before = c.loop-fact.invariant in
    let next : i + 1 ≡ suc i = omega arith in (
      before.0 ++ order ∷ [],
      subst (λ k. AllZip (IsOrder system) (take k facts) (before.0 ++ order ∷ [])) (sym next) (zip-more (IsOrder system) facts before.0 i fact order c.loop-fact-test.true (get_or_default facts i 0 fact c.loop-fact-test.true) before.1 c.in_ok-order.ensures),
      c.in_ok-push_line.ensures ∙ ap (λ lines. lines ++ order_line system fact order) before.2
          ∙ sym (subst (λ k. order_lines system (take k facts) (before.0 ++ order ∷ []) ≡ order_lines system (take i facts) before.0 ++ order_line system fact order) (sym next) (lines-more system facts before.0 i fact order c.loop-fact-test.true refl before.1)),
    )
