use Rattle.std.proofs.Common.{◌≡◌, take}
use Rattle.component_extension.specs.Items.{machine_of}
use Rattle.component_extension.proofs.error_model.machine_of.Given as goal

abbrev pub invariant-loop-scope : goal.invariant-loop-scope
invariant-loop-scope l = l.machine ≡ machine_of (take l.scope l.clauses)
