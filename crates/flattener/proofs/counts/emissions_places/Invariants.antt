use Rattle.std.proofs.Common.{◌≡◌, map, take}
use Rattle.fact_formulas.specs.Formulas.{emission_formulas}
use Rattle.flattener.specs.inner.Tables.{capped, places_of}
use Rattle.flattener.proofs.counts.emissions_places.Given as goal

abbrev pub invariant-loop-emission : goal.invariant-loop-emission
invariant-loop-emission l = l.count ≡ capped (places_of (emission_formulas l.site l.number (map (λ emission. emission.now) (take l.emission-index l.emissions))))
