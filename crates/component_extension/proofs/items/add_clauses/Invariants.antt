use Rattle.std.proofs.Common.{◌≡◌, ◌++◌, map, take}
use Rattle.component_extension.proofs.items.add_clauses.Given as goal

abbrev pub invariant-loop-clause : goal.invariant-loop-clause
invariant-loop-clause l = l.clauses.items ≡ l.fn.clauses.items ++ map (λ clause. record { «package» = l.classifier.«package»; item = clause }) (take l.clause-index l.clause-items)
