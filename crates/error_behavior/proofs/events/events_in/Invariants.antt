use Rattle.std.proofs.Common.{◌≡◌, fold, map, take, option_copied}
use Rattle.error_machines.specs.States.{event_at, keep_event, no_events}
use Rattle.error_behavior.proofs.events.events_in.Given as goal

abbrev pub invariant-loop-decl : goal.invariant-loop-decl
invariant-loop-decl l = record {
  kept : l.types ≡ l.fn.types;
  events : l.events ≡ fold (keep_event l.fn.types) no_events (map (event_at (option_copied l.scope)) (take l.decl-index l.decls));
}
