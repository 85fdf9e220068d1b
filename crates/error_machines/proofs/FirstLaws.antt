-- By the first profile each event is a basic event.
use Rattle.std.proofs.Common.{ℕ, ◌≡◌, Bool, cond, List, [], ◌∷◌, ◌++◌, fold, length, Option, Some, None, refl, sym, ap, ◌∙◌}
use Rattle.component_extension.specs.declared.effective.Effective.{Effective}
use Rattle.profiles.specs.declared.profile.Profile.TheVariants.{First}
use Rattle.error_libraries.specs.Libraries.{Table}
use Rattle.propagation_points.specs.Points.{keep_at}
use Rattle.propagation_points.specs.States.{Sort, all_variants, declared_by, keep_sort, place_of_sort}
use Rattle.error_machines.specs.declared.states.Events.{Events}
use Rattle.error_machines.specs.Machines.{Machine}
use Rattle.error_machines.specs.States.{EventAt, clause_events, event_types, events_of, is_free, keep_event, keep_event_at, machine_events, no_events}
use Rattle.error_machines.specs.inner.First.{events_of as first_events, keep_event as first_kept}

sort-first : (place : Option ℕ) (kept : Events) (name : List ℕ) (types own : Option (List ℕ)) (free : Bool) → place_of_sort kept.sorts name ≡ place → types ≡ own
    → (keep_event_at place kept name types free).sorts ≡ keep_sort kept.sorts name own
sort-first (Some number) kept name types own free is same =
    sym (ap (λ place. keep_at place kept.sorts (record { name = name; first = length (all_variants kept.sorts); types = own })) is)
sort-first None kept name types own free is same = ap (keep_sort kept.sorts name) same

module _ (table : Table) (first : table.profile ≡ First) where
  types-first : (event : EventAt) → event_types table event ≡ declared_by table event.scope event.decl.set
  types-first event = ap (λ profile. cond (is_free profile event.decl.kind) (Some []) (declared_by table event.scope event.decl.set)) first

  kept-first : (kept : Events) (event : EventAt) → (keep_event table kept event).sorts ≡ first_kept table kept.sorts event
  kept-first kept event =
      sort-first (place_of_sort kept.sorts event.decl.name) kept event.decl.name (event_types table event) (declared_by table event.scope event.decl.set) (is_free table.profile event.decl.kind) refl (types-first event)

  all-first : (events : List EventAt) (kept : Events) → (fold (keep_event table) kept events).sorts ≡ fold (first_kept table) kept.sorts events
  all-first [] kept = refl
  all-first (event ∷ events) kept = all-first events (keep_event table kept event) ∙ ap (λ sorts. fold (first_kept table) sorts events) (kept-first kept event)

  pub events-first : (machine : Option Machine) (effective : Effective) → (events_of table machine effective).sorts ≡ first_events table machine effective
  events-first machine effective = all-first (machine_events table machine ++ clause_events table effective) no_events
