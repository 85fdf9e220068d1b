use Rattle.std.proofs.Common.{◌≡◌, Some, fold, take}
use Rattle.error_machines.specs.States.{keep_state, no_states}
use Rattle.error_machines.proofs.states.states_in.Given as goal

abbrev pub invariant-loop-decl : goal.invariant-loop-decl
invariant-loop-decl l = record {
  kept : l.types ≡ l.fn.types;
  states : l.states ≡ fold (keep_state l.fn.types (Some l.scope)) no_states (take l.decl-index l.decls);
}
