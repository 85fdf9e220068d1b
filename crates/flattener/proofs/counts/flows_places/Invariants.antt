use Rattle.std.proofs.Common.{◌≡◌, map, take}
use Rattle.fact_formulas.specs.Formulas.{all_flow_formulas}
use Rattle.flattener.specs.inner.Tables.{capped, flow_seen, places_of}
use Rattle.flattener.proofs.counts.flows_places.Given as goal

abbrev pub invariant-loop-place : goal.invariant-loop-place
invariant-loop-place l = l.count ≡ capped (places_of (all_flow_formulas l.site l.number (map flow_seen (take l.place-index l.flows))))
