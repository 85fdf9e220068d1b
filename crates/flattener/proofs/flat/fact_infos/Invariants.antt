use Rattle.std.proofs.Common.{◌≡◌, map, take}
use Rattle.fact_formulas.specs.Flat.{fact_info}
use Rattle.flattener.proofs.flat.fact_infos.Given as goal

abbrev pub invariant-loop-fact : goal.invariant-loop-fact
invariant-loop-fact l = l.infos ≡ map (fact_info l.numbers) (take l.fact-index l.fact-items)
