use Rattle.std.proofs.Common.{◌≡◌, flat_map, take}
use Rattle.fact_formulas.specs.Facts.{perhaps_at}
use Rattle.flattener.specs.inner.Tables.{capped, places_of}
use Rattle.flattener.proofs.counts.from_places.Given as goal

abbrev pub invariant-loop-from : goal.invariant-loop-from
invariant-loop-from l = l.count ≡ capped (places_of (flat_map (perhaps_at l.numbers l.number) (take l.from-index l.from-items)))
