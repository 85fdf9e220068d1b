use Rattle.std.proofs.Common.{◌≡◌, [], ◌++◌, ap, ◌∙◌}
use Rattle.noted_refusals.specs.inner.Noted.{noting}
use Rattle.package_index.proofs.Loops.{gathered-more}
use Rattle.noted_refusals.proofs.Loops.{noting-more}
use Rattle.propagation_points.specs.Settings.{clause_setting}
use Rattle.composite_states.specs.Composites.{clause_of, clause_refusals, fails_in}
use Rattle.composite_states.proofs.clauses.clauses_in.Goals as goal

pub loop-composite-preserved : goal.loop-composite-preserved
loop-composite-preserved g c =
    let around = c.args.around.now in
    let below = g.B.StatesBelow.states_at around.below.now in
    let table = c.args.reading.now.types in
    let states = around.states.now in
    let setting = clause_setting around.points.now states.sorts around.scopes.now in
    let fails = fails_in below table around.points.now states.sorts around.scopes.now around.composites.now in
    let one = c.composite-item.result in
    let kept : c.loop-composite.reading.types ≡ table = c.loop-composite.invariant.kept in
    let here : c.place_in-place.result.setting ≡ setting one.scope = ap (λ place. place.setting) c.place_in-place.ensures ∙ ap setting c.scope.ensures in
    let under : g.B.StatesBelow.states_at c.place_in-place.result.below ≡ below = ap (λ place. g.B.StatesBelow.states_at place.below) c.place_in-place.ensures in
    record {
      kept = c.in_ok-add_clause.ensures.kept ∙ kept;
      clauses = gathered-more around.composites.now c.loop-composite.composite-index one c.loop-composite-test.true c.composite-item.is (λ each. clause_of below (setting each.scope) table fails each.item) [] c.loop-composite.clauses _ c.loop-composite.invariant.clauses
          (c.in_ok-add_clause.ensures.clauses ∙ (λ i. c.loop-composite.clauses ++ clause_of (under i) (here i) (kept i) (fails_in below (kept i) around.points.now states.sorts around.scopes.now around.composites.now) (c.item.ensures i)));
      first = noting-more around.composites.now c.loop-composite.composite-index one c.loop-composite-test.true c.composite-item.is (λ each. clause_refusals below (setting each.scope) table states.initial each.item) c.loop-composite.reading.refusals _ _
          (c.in_ok-add_clause.ensures.noted ∙ (λ i. noting c.loop-composite.reading.refusals (clause_refusals (under i) (here i) (kept i) states.initial (c.item.ensures i)))) c.loop-composite.invariant.first;
    }
