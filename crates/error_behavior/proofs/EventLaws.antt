-- The events of a machine and then of clauses.
use Rattle.std.proofs.Common.{ℕ, ◌≡◌, Bool, List, [], ◌∷◌, ◌++◌, fold, Option, None, sym, ap, ◌∙◌}
use Rattle.std.proofs.lemmas.Grind.{fold-append}
use Rattle.component_extension.specs.declared.effective.Effective.{Effective}
use Rattle.error_libraries.specs.Libraries.{Table}
use Rattle.error_machines.specs.Machines.{Machine}
use Rattle.error_machines.specs.States.{clause_events, event_types, events_of, is_free, keep_event, keep_event_at, machine_events, no_events}
use Rattle.error_machines.specs.declared.states.Events.{Events}
use Rattle.propagation_points.specs.States.{Sort, keep_sort}

pub events-joined : (table : Table) (machine : Option Machine) (effective : Effective)
    → fold (keep_event table) (fold (keep_event table) no_events (machine_events table machine)) (clause_events table effective) ≡ events_of table machine effective
events-joined table machine effective = sym (fold-append (keep_event table) no_events (machine_events table machine) (clause_events table effective))

-- an event more, and its mark
pub event-kept : (events : Events) (name : List ℕ) (place : Option ℕ) (own types : Option (List ℕ)) (marked free : Bool) (sorts : List Sort) (marks : List Bool)
    → place ≡ None → own ≡ types → marked ≡ free → sorts ≡ keep_sort events.sorts name own → marks ≡ events.free ++ marked ∷ []
    → ◌≡◌ {A = Events} (record { sorts = sorts; free = marks }) (keep_event_at place events name types free)
event-kept events name place own types marked free sorts marks none same is-free is-sorts is-marks =
    let made : List Sort → List Bool → Events = λ x y. record { sorts = x; free = y } in
    ap (λ x. made x marks) is-sorts
    ∙ ap (made (keep_sort events.sorts name own)) is-marks
    ∙ (λ i. keep_event_at None events name (same i) (is-free i))
    ∙ ap (λ p. keep_event_at p events name types free) (sym none)
