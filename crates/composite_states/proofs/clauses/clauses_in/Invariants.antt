use Rattle.std.proofs.Common.{◌≡◌, drop, take}
use Rattle.noted_refusals.specs.inner.Noted.{noting}
use Rattle.composite_states.specs.Composites.{clauses_among, fails_in, refusals_in}
use Rattle.composite_states.proofs.clauses.clauses_in.Given as goal

abbrev pub invariant-loop-composite : goal.invariant-loop-composite
invariant-loop-composite g l = record {
  kept : l.reading.types ≡ l.fn.reading.types;
  clauses : l.clauses ≡ clauses_among (g.B.StatesBelow.states_at l.around.below.now) l.fn.reading.types l.around.points.now l.around.states.now.sorts l.around.scopes.now (fails_in (g.B.StatesBelow.states_at l.around.below.now) l.fn.reading.types l.around.points.now l.around.states.now.sorts l.around.scopes.now l.around.composites.now) (take l.composite-index l.around.composites.now);
  first : noting l.reading.refusals (refusals_in (g.B.StatesBelow.states_at l.around.below.now) l.fn.reading.types l.around.points.now l.around.states.now l.around.scopes.now (drop l.composite-index l.around.composites.now)) ≡ noting l.fn.reading.refusals (refusals_in (g.B.StatesBelow.states_at l.around.below.now) l.fn.reading.types l.around.points.now l.around.states.now l.around.scopes.now l.around.composites.now);
}
