use Rattle.std.proofs.Common.{◌≡◌, map, take}
use Rattle.path_sets.specs.Duals.{dual_fact}
use Rattle.path_sets.proofs.duals.dual_facts.Given as goal

abbrev pub invariant-loop-fact : goal.invariant-loop-fact
invariant-loop-fact l = l.made ≡ map dual_fact (take l.fact-index l.facts)
