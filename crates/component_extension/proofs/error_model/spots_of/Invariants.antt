use Rattle.std.proofs.Common.{◌≡◌, take}
use Rattle.component_extension.specs.Items.{spots_of}
use Rattle.component_extension.proofs.error_model.spots_of.Given as goal

abbrev pub invariant-loop-clause : goal.invariant-loop-clause
invariant-loop-clause g l = l.spots ≡ spots_of g.S.SpotKind.spots (take l.clause-index l.clauses)
