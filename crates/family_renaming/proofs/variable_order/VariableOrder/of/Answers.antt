use Rattle.std.proofs.Common.{ap, sym, subst, ◌∙◌, length}
use Rattle.std.proofs.lemmas.Bool.{false≢true}
use Rattle.family_renaming.specs.inner.Orders.{HasPlaces}
use Rattle.family_renaming.proofs.Permutations.{are_inverse, event_order, order_undone, order_redone, both_undone}
use Rattle.family_renaming.proofs.variable_order.VariableOrder.of.Goals as goal

pub invariant_of-result : goal.invariant_of-result
invariant_of-result c =
    let both = both_undone _ _ c.args.events.items c.in_ok-variables.variables.items c.as_slice-2.ensures.value c.as_slice-3.ensures.value (c.undo_each_other.ensures.0 c.if-undo_each_other.true) in
    are_inverse c.args.events.items c.in_ok-variables.variables.items (c.in_ok-variables.ensures.long ∙ ap length c.as_slice.ensures.value) both.0 both.1

pub returns-then-undo_each_other-clause-other : goal.returns-then-undo_each_other-clause-other
returns-then-undo_each_other-clause-other c other =
    let both = both_undone _ _ c.args.events.items c.in_ok-variables.variables.items c.as_slice-2.ensures.value c.as_slice-3.ensures.value (c.undo_each_other.ensures.0 c.if-undo_each_other.true) in
    absurd (other (event_order c.args.events.items c.in_ok-variables.variables.items (c.in_ok-variables.ensures.long ∙ ap length c.as_slice.ensures.value) both.0 both.1))

pub returns-clause-permuted : goal.returns-clause-permuted
returns-clause-permuted c order =
    let long = c.in_ok-variables.ensures.long ∙ ap length c.as_slice.ensures.value in
    let places = subst (λ events. HasPlaces events (length events) c.in_ok-variables.variables.items) c.as_slice.ensures.value c.in_ok-variables.ensures.places in
    let undone = order_undone c.args.events.items c.in_ok-variables.variables.items long places order in
    let redone = order_redone c.args.events.items c.in_ok-variables.variables.items long places order in
    let both = both_undone c.args.events.items c.in_ok-variables.variables.items _ _ (sym c.as_slice-2.ensures.value) (sym c.as_slice-3.ensures.value) (undone, redone) in
    absurd (false≢true (sym c.if-undo_each_other.false ∙ c.undo_each_other.ensures.1 both))
