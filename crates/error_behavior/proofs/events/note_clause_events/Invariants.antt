use Rattle.std.proofs.Common.{◌≡◌, drop, flat_map}
use Rattle.noted_refusals.specs.inner.Noted.{noting}
use Rattle.error_machines.specs.States.{event_refusals}
use Rattle.error_behavior.proofs.events.note_clause_events.Given as goal

abbrev pub invariant-loop-event : goal.invariant-loop-event
invariant-loop-event l = noting l.refusals (flat_map (λ scoped. event_refusals l.profile scoped.item) (drop l.event-index l.events)) ≡ noting l.fn.refusals (flat_map (λ scoped. event_refusals l.profile scoped.item) l.events)
