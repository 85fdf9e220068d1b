use Rattle.std.proofs.Common.{◌≡◌, take}
use Rattle.propagation_points.specs.Points.{scopes_of}
use Rattle.propagation_points.proofs.declared.scopes_of.Given as goal

abbrev pub invariant-loop-clause : goal.invariant-loop-clause
invariant-loop-clause l = l.scopes ≡ scopes_of l.types.packages (take l.clause-index l.clauses)
