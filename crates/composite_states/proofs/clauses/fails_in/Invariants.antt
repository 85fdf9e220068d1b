use Rattle.std.proofs.Common.{◌≡◌, take}
use Rattle.composite_states.specs.Composites.{fails_in}
use Rattle.composite_states.proofs.clauses.fails_in.Given as goal

abbrev pub invariant-loop-composite : goal.invariant-loop-composite
invariant-loop-composite g l = record {
  kept : l.reading.types ≡ l.fn.reading.types;
  fails : l.fails ≡ fails_in (g.B.StatesBelow.states_at l.around.below.now) l.fn.reading.types l.around.points.now l.around.states.now.sorts l.around.scopes.now (take l.composite-index l.around.composites.now);
}
