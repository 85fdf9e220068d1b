use Rattle.std.proofs.Common.{[]}
use Rattle.component_extension.specs.Items.{scoped_by}
use Rattle.component_extension.specs.Rows.{put}
use Rattle.package_index.proofs.Loops.{numbered-folded}
use Rattle.component_extension.proofs.items.gathered.Goals as goal

pub loop-scope-preserved : goal.loop-scope-preserved
loop-scope-preserved g c = record {
  rows = numbered-folded (scoped_by g.T.ClauseItem.items) c.args.clauses.now c.loop-scope.scope c.index-clauses-scope.result c.loop-scope-test.true c.index-clauses-scope.is
      (put (λ scoped. g.T.ClauseItem.key scoped.item)) [] c.loop-scope.rows.items _ c.loop-scope.invariant.rows c.in_ok-put_items.ensures.rows;
  knows = c.in_ok-put_items.ensures.knows;
}
