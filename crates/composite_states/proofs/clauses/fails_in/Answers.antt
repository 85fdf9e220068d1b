use Rattle.std.proofs.Common.{◌≡◌, [], ◌++◌, ap, ◌∙◌}
use Rattle.package_index.proofs.Loops.{gathered-more}
use Rattle.propagation_points.specs.Settings.{clause_setting}
use Rattle.composite_states.specs.Composites.{fails_at}
use Rattle.composite_states.proofs.clauses.fails_in.Goals as goal

pub loop-composite-preserved : goal.loop-composite-preserved
loop-composite-preserved g c =
    let around = c.args.around.now in
    let below = g.B.StatesBelow.states_at around.below.now in
    let table = c.args.reading.now.types in
    let setting = clause_setting around.points.now around.states.now.sorts around.scopes.now in
    let one = c.composite-item.result in
    let kept : c.loop-composite.reading.types ≡ table = c.loop-composite.invariant.kept in
    let here : c.place_in-place.result.setting ≡ setting one.scope = ap (λ place. place.setting) c.place_in-place.ensures ∙ ap setting c.scope.ensures in
    let under : g.B.StatesBelow.states_at c.place_in-place.result.below ≡ below = ap (λ place. g.B.StatesBelow.states_at place.below) c.place_in-place.ensures in
    record {
      kept = c.in_ok-add_fails.ensures.kept ∙ kept;
      fails = gathered-more around.composites.now c.loop-composite.composite-index one c.loop-composite-test.true c.composite-item.is (λ each. fails_at below (setting each.scope) table each.item.condition) [] c.loop-composite.fails _ c.loop-composite.invariant.fails
          (c.in_ok-add_fails.ensures.fails ∙ (λ i. c.loop-composite.fails ++ fails_at (under i) (here i) (kept i) (c.item.ensures i).condition));
    }
