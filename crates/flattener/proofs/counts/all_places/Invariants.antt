use Rattle.std.proofs.Common.{◌≡◌, map, take, sum}
use Rattle.fact_formulas.specs.Flat.{places}
use Rattle.fact_formulas.specs.Facts.{meaning_of}
use Rattle.flattener.specs.inner.Tables.{capped}
use Rattle.flattener.proofs.counts.all_places.Given as goal

abbrev pub invariant-loop-fact : goal.invariant-loop-fact
invariant-loop-fact l = l.count ≡ capped (sum (map (λ fact. places (meaning_of l.numbers fact)) (take l.fact-index l.fact-items)))
