use Rattle.std.proofs.Common.{◌≡◌, None, is_some, sym, ap, ◌∙◌}
use Rattle.propagation_points.specs.States.{place_of_sort}
use Rattle.propagation_points.proofs.PlaceLaws.{none-of}
use Rattle.error_machines.proofs.StateLaws.{state-kept}
use Rattle.error_machines.proofs.states.with_state.Goals as goal

pub returns-clause-states : goal.returns-clause-states
returns-clause-states c =
    let states = c.args.states in
    let decl = c.args.decl.now in
    let none : place_of_sort states.sorts decl.name ≡ None =
    none-of _ (ap (λ name. is_some (place_of_sort states.sorts name)) (sym c.text.ensures.text) ∙ (ap is_some (sym c.place.ensures) ∙ (sym c.is_some.ensures ∙ c.if-is_some.false))) in
    state-kept states decl (place_of_sort states.sorts decl.name) c.in_ok-own.own _ c.in_ok-sorts.sorts c.push.new.self c.add_marks.new.marks
    none c.in_ok-own.ensures.types c.in_ok-sorts.ensures c.in_ok-push.ensures.ok c.in_ok-add_marks.ensures
