use Rattle.std.proofs.Common.{◌≡◌, flat_map, take}
use Rattle.fact_formulas.specs.Facts.{perhaps_at}
use Rattle.flattener.proofs.numbers.Numbers.linked.Given as goal

abbrev pub invariant-loop-from : goal.invariant-loop-from
invariant-loop-from l = l.parts ≡ flat_map (perhaps_at l.self l.number) (take l.from-index l.from-items)
