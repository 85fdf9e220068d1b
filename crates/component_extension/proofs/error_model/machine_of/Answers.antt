use Rattle.std.proofs.Common.{None, Some}
use Rattle.component_extension.specs.Items.{machine_by}
use Rattle.package_index.proofs.Loops.{numbered-folded}
use Rattle.component_extension.proofs.error_model.machine_of.Goals as goal

pub loop-scope-preserved : goal.loop-scope-preserved
loop-scope-preserved c =
    numbered-folded machine_by c.args.clauses.now c.loop-scope.scope c.index-clauses-scope.result c.loop-scope-test.true c.index-clauses-scope.is (λ before machine. Some machine) None c.loop-scope.machine _ c.loop-scope.invariant c.machine_by-machine.ensures
