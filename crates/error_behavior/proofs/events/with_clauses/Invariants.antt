use Rattle.std.proofs.Common.{◌≡◌, fold, map, take}
use Rattle.error_machines.specs.States.{clause_event, keep_event}
use Rattle.error_behavior.proofs.events.with_clauses.Given as goal

abbrev pub invariant-loop-decl : goal.invariant-loop-decl
invariant-loop-decl l = record {
  kept : l.types ≡ l.fn.types;
  events : l.events ≡ fold (keep_event l.fn.types) l.fn.before (map (clause_event l.texts.clauses) (take l.decl-index l.decls));
}
