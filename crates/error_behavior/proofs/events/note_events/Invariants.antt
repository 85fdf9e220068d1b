use Rattle.std.proofs.Common.{◌≡◌, drop, flat_map}
use Rattle.noted_refusals.specs.inner.Noted.{noting}
use Rattle.error_machines.specs.States.{event_refusals}
use Rattle.error_behavior.proofs.events.note_events.Given as goal

abbrev pub invariant-loop-decl : goal.invariant-loop-decl
invariant-loop-decl l = noting l.refusals (flat_map (event_refusals l.profile) (drop l.decl-index l.decls)) ≡ noting l.fn.refusals (flat_map (event_refusals l.profile) l.decls)
