use Rattle.std.proofs.Common.{◌≡◌, map, take}
use Rattle.explained_calls.proofs.near.fact_names.Given as goal

abbrev pub invariant-loop-fact : goal.invariant-loop-fact
invariant-loop-fact l = map (λ name. name.now) l.names.items ≡ map (λ fact. fact.name) (take l.fact-index l.facts)
