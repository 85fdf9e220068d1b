use Rattle.std.proofs.Common.{◌≡◌, None, is_some, sym, ap, ◌∙◌}
use Rattle.propagation_points.specs.States.{place_of_sort}
use Rattle.propagation_points.proofs.PlaceLaws.{none-of}
use Rattle.error_machines.specs.States.{is_free}
use Rattle.error_behavior.proofs.EventLaws.{event-kept}
use Rattle.error_behavior.proofs.events.with_event.Goals as goal

pub returns-clause-events : goal.returns-clause-events
returns-clause-events c =
    let events = c.args.events in
    let decl = c.args.decl.now in
    let none : place_of_sort events.sorts decl.name ≡ None =
    none-of _ (ap (λ name. is_some (place_of_sort events.sorts name)) (sym c.text.ensures.text) ∙ (ap is_some (sym c.place.ensures) ∙ (sym c.is_some.ensures ∙ c.if-is_some.false))) in
    event-kept events decl.name (place_of_sort events.sorts decl.name) c.in_ok-own.own _ c.is_free-mark.result _ c.in_ok-sorts.sorts c.push.new.self
    none c.in_ok-own.ensures.types (c.is_free-mark.ensures ∙ ap (λ profile. is_free profile decl.kind) c.profile.ensures) c.in_ok-sorts.ensures c.in_ok-push.ensures.ok
